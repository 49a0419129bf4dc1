-- The definitions that the contracts of `words_pack` cite.
pub mod Color
pub mod Dither
pub mod Depth
pub mod Writer
