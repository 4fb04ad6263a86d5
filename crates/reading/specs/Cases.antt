pub mod Build
pub mod Table
pub mod Points
pub mod Unsupported
pub mod RangeCases
pub mod Reader
pub mod Differences
pub mod Metadata
