-- What the proofs of `raster_emitted` share, and the laws for its callers.
pub mod Runs
pub mod Listing
pub mod Lines
pub mod Triangles
pub mod Colorless
