pub mod Ready
pub mod Code
