pub mod ExecuteActions
pub mod Slots
