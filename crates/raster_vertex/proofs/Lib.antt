-- What several proofs of `raster_vertex` share, and the laws that other crates cite.
pub mod Ranked
pub mod Quarters
pub mod Ordered
pub mod Three
pub mod Rows
