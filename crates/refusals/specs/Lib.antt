pub mod Totals
pub mod FirstRefusal
