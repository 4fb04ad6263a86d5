-- Laws on plain lists and numbers, for the proofs of the functions and of the crates above.
pub mod TotalLaws
pub mod Writing
