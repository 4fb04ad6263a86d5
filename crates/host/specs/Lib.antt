pub mod HostQueries
pub mod HostUpdates
pub mod ReadRecord
