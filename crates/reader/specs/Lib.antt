pub mod Reading
pub mod Refinement
pub mod NetworkRun
pub mod NetworkEnd
pub mod Phases
pub mod Framing
pub mod Numbers
