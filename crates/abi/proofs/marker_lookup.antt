-- Laws of the question's definitions, for the proofs of several functions.
pub mod LookupLaws
