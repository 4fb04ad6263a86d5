-- Laws on plain lists and numbers, for the proofs of the functions.
pub mod LentLaws
