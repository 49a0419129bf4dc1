-- The definitions that the contracts of `raster_vertex` cite.
pub mod Range
pub mod Sorted
pub mod Shade
pub mod Row
pub mod Any
