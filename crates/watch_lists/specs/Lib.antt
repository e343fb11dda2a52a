pub mod Cursor
pub mod Entry
pub mod Lists
pub mod Waiting
pub mod Watched
pub mod Code
