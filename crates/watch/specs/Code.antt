-- How the parts of the code fit together. No public contract speaks of it.
pub mod ClauseSource
pub mod State
pub mod Turns
pub mod Visits
