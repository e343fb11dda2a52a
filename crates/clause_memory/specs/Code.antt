-- How the parts of the code fit together. No public contract speaks of it.
pub mod Cells
pub mod Fields
pub mod Free
pub mod Slots
