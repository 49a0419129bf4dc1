-- What the proofs of `raster_edges` share, and the laws that callers cite.
pub mod Size
pub mod Tame
pub mod Pairs
pub mod Outside
pub mod Fits
pub mod Innermost
pub mod Lines
