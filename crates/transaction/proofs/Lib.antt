pub mod Turns
pub mod Parts
pub mod Found
pub mod Ends
pub mod Progress
pub mod Turn
pub mod Promise
pub mod Tested
