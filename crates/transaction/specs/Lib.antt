pub mod RunPhase
pub mod WalkRules
