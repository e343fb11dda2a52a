-- How the parts of the code fit together. No public contract speaks of it.
pub mod Binary
pub mod BinaryMoves
pub mod Drat
pub mod DratMoves
pub mod Lrat
pub mod LratMoves
pub mod Reading
pub mod TextMoves
pub mod TextSteps
pub mod Whole
