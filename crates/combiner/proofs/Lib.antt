-- The laws of `combiner` for the crates above it.
pub mod Known
