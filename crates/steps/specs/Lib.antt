pub mod ProofSession
pub mod Session
pub mod Code
