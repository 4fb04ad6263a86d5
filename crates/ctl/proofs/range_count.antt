-- Laws on plain lists: the pass counts what `removal_value` says.
pub mod Numbers
pub mod Dashes
pub mod Bytes
pub mod Passing
pub mod Commas
