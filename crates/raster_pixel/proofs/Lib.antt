-- What several proofs of `raster_pixel` share, and the laws for the draw loops above it.
pub mod Parts
pub mod Loops
pub mod Mapped
pub mod Checked
pub mod Inside
pub mod Masks
pub mod Placed
pub mod Kept
pub mod Counts
pub mod Near
pub mod SetUp
