pub mod Existence
pub mod Losses
pub mod Reasons
pub mod Rules
pub mod Sizes
pub mod Truth
pub mod Verdicts
