pub mod ByOption
pub mod Handled
pub mod ItemData
