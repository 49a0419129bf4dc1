-- The laws of `combiner_resolved` for the crates above it.
pub mod Flat
pub mod Mixes
