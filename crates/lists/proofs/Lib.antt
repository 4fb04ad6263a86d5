pub mod RefusalLaws
pub mod Slices
pub mod Tests
pub mod Filled
pub mod RecordLaws
pub mod Chunks
