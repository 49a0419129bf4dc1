-- The definitions that the contracts of `raster_emitted` cite.
pub mod Masked
pub mod Shapes
pub mod Filled
pub mod Listed
