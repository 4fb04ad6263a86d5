pub mod RuleLaws
pub mod UnitLaws
pub mod Coded
