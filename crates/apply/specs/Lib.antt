pub mod Codes
pub mod Append
pub mod SettingCodes
pub mod UnitChanges
pub mod AddedRanges
pub mod UnitCodes
pub mod ApplyUnit
