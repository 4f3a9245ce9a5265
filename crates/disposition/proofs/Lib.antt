pub mod Reports
pub mod ItemLengths
pub mod Padding
pub mod Waiting
