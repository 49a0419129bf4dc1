-- The definitions that the contracts of `combiner` cite.
pub mod Combine
pub mod Strict
pub mod New
pub mod Means
