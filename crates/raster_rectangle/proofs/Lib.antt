-- What the proofs of `raster_rectangle` share.
pub mod Exact
pub mod First
pub mod Outlined
