pub mod Code
pub mod History
pub mod Order
pub mod Roots
pub mod Uses
pub mod Watched
