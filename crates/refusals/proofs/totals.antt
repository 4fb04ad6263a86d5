-- Laws on plain lists and numbers, for the proofs of the functions and of the crates above.
pub mod Summing
pub mod Exceeding
pub mod Following
pub mod Refused
