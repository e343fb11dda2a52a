pub mod BySlot
pub mod Cache
pub mod Map
pub mod Pages
