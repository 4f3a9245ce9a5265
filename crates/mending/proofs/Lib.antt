pub mod Walk
pub mod Fits
pub mod Dropping
pub mod FirstFound
pub mod Scans
pub mod HandOver
pub mod ByParts
pub mod Going
