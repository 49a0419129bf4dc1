-- A fact that a proof of `c_pixel` rests on.
pub mod Sizes
