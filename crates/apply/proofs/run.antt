pub mod StepLaws
pub mod RuleLaws
pub mod UnitLaws
pub mod Fits
