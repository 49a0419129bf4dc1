-- What several proofs of `rasterize` share.
pub mod Same
pub mod Kept
pub mod Shapes
