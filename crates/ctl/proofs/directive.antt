-- Laws of the definitions of a directive, for the proofs of several functions.
pub mod Values
