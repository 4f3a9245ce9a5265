pub mod Notes
pub mod SameReading
pub mod AsCalled
