-- The definitions that the contracts of `num_bits` cite.
pub mod Field
pub mod Ones
