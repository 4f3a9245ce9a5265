pub mod Sending
pub mod Refinement
