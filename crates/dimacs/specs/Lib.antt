pub mod Formula
pub mod Reading
pub mod Claim
pub mod Printing
pub mod Grammar
pub mod Code
