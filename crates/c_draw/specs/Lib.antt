-- The definitions that the contracts of `c_draw` cite.
pub mod Draws
