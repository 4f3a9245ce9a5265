pub mod Control
pub mod Taking
pub mod Refinement
