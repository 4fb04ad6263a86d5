-- Laws on plain lists and numbers, for the proof of the function.
pub mod MarkerLaws
