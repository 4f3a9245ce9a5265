pub mod Cells
pub mod Gathering
pub mod Pressing
pub mod PlainKeys
pub mod Releasing
pub mod Sending
pub mod Bounds
pub mod StartedEcho
