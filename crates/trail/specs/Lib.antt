pub mod Left
pub mod LiteralSet
pub mod Numbers
pub mod Reduced
pub mod Trail
pub mod Code
