pub mod Folding
pub mod Spelling
pub mod Search
