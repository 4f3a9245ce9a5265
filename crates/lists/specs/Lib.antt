pub mod Choice
pub mod Lists
pub mod Buffers
pub mod Fronts
