-- Laws on plain lists, for the proofs of the functions.
pub mod AnyLaws
