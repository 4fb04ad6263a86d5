-- Laws on plain values, for the proofs of the functions.
pub mod UnitLaws
