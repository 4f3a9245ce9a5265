pub mod BulletinArrays
pub mod BulletinRuns
pub mod Numbers
pub mod PrinterArrays
pub mod PrinterRuns
