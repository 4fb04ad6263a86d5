pub mod EndOfVisit
pub mod BuildIntervention
