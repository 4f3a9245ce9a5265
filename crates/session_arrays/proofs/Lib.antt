pub mod BulletinArrays
pub mod BulletinRuns
pub mod Decoding
pub mod PrinterArrays
pub mod PrinterInPlace
pub mod PrinterRuns
