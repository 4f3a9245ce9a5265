pub mod Pairs
pub mod Together
pub mod Calls
pub mod Sessions
pub mod Lent
