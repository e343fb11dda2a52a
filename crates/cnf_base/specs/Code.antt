-- How the parts of the code fit together. No public contract speaks of it.
pub mod Digits
pub mod Eight
pub mod Literals
pub mod Marks
pub mod Seen
pub mod Stream
pub mod Text
pub mod Whole
