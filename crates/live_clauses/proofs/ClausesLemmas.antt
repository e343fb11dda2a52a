pub mod Distinct
pub mod Joined
pub mod Kept
pub mod Owners
pub mod Touched
