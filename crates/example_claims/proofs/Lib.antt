pub mod Examples
pub mod Visible
pub mod Further
pub mod Replaced
pub mod Outside
