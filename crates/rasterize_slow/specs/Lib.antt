-- The definitions that the contracts of `rasterize_slow` cite.
pub mod Laws
pub mod Shape
pub mod Sent
