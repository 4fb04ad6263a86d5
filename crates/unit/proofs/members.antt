pub mod MatchedLaws
pub mod WordLaws
