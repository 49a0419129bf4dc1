-- The definitions that the contracts of `num_float` cite.
pub mod Color
pub mod Whole
pub mod Coarse
