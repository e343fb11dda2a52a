pub mod FormulaReach
pub mod ModelReport
pub mod Options
pub mod Reach
pub mod Report
pub mod Runs
pub mod Theorem
pub mod Code
