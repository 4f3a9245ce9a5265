pub mod Guards
pub mod Allowed
pub mod Rooms
pub mod Notes
pub mod Entries
