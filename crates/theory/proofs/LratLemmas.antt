pub mod LiveSets
pub mod SameSets
pub mod States
pub mod Steps
pub mod Sums
