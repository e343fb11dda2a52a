pub mod LiveClauses
pub mod Code
