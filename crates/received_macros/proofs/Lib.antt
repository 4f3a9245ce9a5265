pub mod Laws
pub mod Marks
pub mod View
pub mod Copying
pub mod Defining
pub mod Determined
pub mod Totals
