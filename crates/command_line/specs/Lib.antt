pub mod Asked
pub mod Texts
pub mod Words
pub mod Code
