pub mod Texts
pub mod Refinement
