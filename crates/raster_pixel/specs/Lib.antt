-- The definitions that the contracts of `raster_pixel` cite.
pub mod Parts
pub mod Ran
pub mod Area
pub mod Row
pub mod Admitted
pub mod Emitted
pub mod Near
pub mod SetUp
pub mod Draw
