pub mod Replies
pub mod Outcomes
pub mod Apart
