pub mod Back
pub mod Settings
