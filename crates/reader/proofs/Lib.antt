pub mod Bodies
pub mod Determined
pub mod IdleReader
pub mod NetworkRun
pub mod RunLoop
pub mod DataBytes
pub mod Framing
pub mod PhaseAlone
