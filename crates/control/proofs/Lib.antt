pub mod Determined
pub mod Chained
