pub mod Readers
pub mod PieceRead
pub mod Checking
pub mod Handling
pub mod Notes
pub mod Reasons
pub mod SameReading
pub mod AsCalled
