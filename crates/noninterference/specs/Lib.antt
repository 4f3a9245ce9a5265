pub mod TwoSessions
pub mod Lent
