pub mod Answers
pub mod Telnet
pub mod Dispositions
