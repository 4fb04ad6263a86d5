pub mod VisitRule
pub mod CloseUnit
