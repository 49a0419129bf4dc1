-- The theorem that what is known is true, and its laws.
pub mod Words
pub mod Truth
pub mod Completed
pub mod Console
pub mod Wrong
