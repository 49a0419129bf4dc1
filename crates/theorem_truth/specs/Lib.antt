-- The definitions of the theorem that what is known is true.
pub mod Truth
pub mod Completed
pub mod Console
pub mod Wrong
