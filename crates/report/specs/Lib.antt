pub mod Lines
pub mod Status
pub mod Subjects
