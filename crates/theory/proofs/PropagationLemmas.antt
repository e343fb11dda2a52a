pub mod Conflicts
pub mod Covers
pub mod Forced
pub mod Open
pub mod Unit
