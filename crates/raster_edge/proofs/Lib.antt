-- What the proofs of `raster_edge` share, and the laws that callers cite.
pub mod Bits
pub mod Size
pub mod Held
pub mod Clamped
