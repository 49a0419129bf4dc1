-- The definitions that the contracts of `raster_edge` cite.
pub mod Edge
pub mod Span
pub mod Lines
pub mod Bound
pub mod Limits
