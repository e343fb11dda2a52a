pub mod Accepted
pub mod Ends
pub mod Known
pub mod Reading
pub mod Rows
pub mod Rules
pub mod Steps
pub mod Turns
