-- Watch lists.
pub mod Cursor
pub mod Entries
pub mod Lists
pub mod Made
pub mod Parts
pub mod SlotList
pub mod Watched
