pub mod ByKey
pub mod Lists
pub mod Code
