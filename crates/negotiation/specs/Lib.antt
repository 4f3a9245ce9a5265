pub mod Table
pub mod Carried
pub mod Apart
pub mod Numbers
