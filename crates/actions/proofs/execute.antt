-- Laws on plain lists and numbers, for the proofs of the functions.
pub mod PlacedLaws
pub mod SlotLaws
pub mod MarkLaws
pub mod NumberLaws
pub mod ControlLaws
pub mod Sofar
