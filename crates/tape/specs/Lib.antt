pub mod Fields
pub mod Lines
pub mod Running
pub mod LentSession
pub mod Whole
pub mod Numbers
pub mod Scanning
pub mod Refinement
