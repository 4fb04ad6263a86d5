pub mod LentMarkers
pub mod RoundTrip
pub mod HostLaws
