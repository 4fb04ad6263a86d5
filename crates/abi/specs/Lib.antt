pub mod MarkerWords
pub mod MarkerLookup
pub mod HostValues
pub mod Settings
pub mod HostControls
pub mod HostIntervention
pub mod HostRecord
pub mod HostCall
