pub mod State
pub mod Code
