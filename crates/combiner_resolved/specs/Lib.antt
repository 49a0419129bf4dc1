-- The definitions that the contracts of `combiner_resolved` cite.
pub mod Shaded
pub mod Resolved
