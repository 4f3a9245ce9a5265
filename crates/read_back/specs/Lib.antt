pub mod Ends
pub mod TextSent
pub mod ReadBack
pub mod Defined
pub mod Incident
pub mod History
pub mod InIssue
