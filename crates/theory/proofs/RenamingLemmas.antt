pub mod Clauses
pub mod Forced
pub mod Drat
pub mod Lrat
pub mod Verdicts
