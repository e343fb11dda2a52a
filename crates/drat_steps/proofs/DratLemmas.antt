pub mod Candidates
pub mod Losses
pub mod Steps
pub mod Terms
