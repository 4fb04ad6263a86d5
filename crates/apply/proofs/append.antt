pub mod WrittenLaws
pub mod LentLaws
pub mod ChangedLaws
