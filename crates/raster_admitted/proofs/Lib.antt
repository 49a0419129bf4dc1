-- What proofs of the crates above `raster_admitted` share.
pub mod Choices
