-- Watched literals.
pub mod State
pub mod Visits
pub mod Moves
pub mod Turns
