pub mod Judging
pub mod Pieces
pub mod Mending
pub mod Refinement
pub mod Dropping
