-- The definitions that the contracts of `raster_rectangle` cite.
pub mod Rectangle
pub mod Outline
