pub mod EntryLaws
pub mod CloseLaws
