-- The laws that callers cite.
pub mod Masks
pub mod Fields
