-- How the parts of the code fit together. No public contract speaks of it.
pub mod Checked
pub mod Checking
pub mod FormulaReach
pub mod Judging
pub mod Reach
pub mod Writer
