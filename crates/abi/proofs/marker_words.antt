pub mod Padded
pub mod Back
