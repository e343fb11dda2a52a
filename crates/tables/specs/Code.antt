-- How the parts of the code fit together. No public contract speaks of it.
pub mod ByKey
pub mod Lists
