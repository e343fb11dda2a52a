pub mod Left
pub mod Longer
pub mod MakesFalse
pub mod Reserved
pub mod Truth
pub mod Values
pub mod Without
