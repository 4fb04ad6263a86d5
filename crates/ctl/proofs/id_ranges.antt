-- Laws on plain lists, for the proofs of several functions.
pub mod Parts
pub mod Filling
