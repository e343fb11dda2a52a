pub mod Store
pub mod Code
