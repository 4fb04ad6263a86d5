pub mod CountRanges
pub mod Scan
pub mod WriteRanges
pub mod SettingNames
pub mod ReadDirective
