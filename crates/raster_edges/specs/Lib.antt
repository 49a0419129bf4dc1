-- The definitions that the contracts of `raster_edges` cite.
pub mod Edge
pub mod Span
pub mod Lines
pub mod Sample
pub mod Bound
pub mod Limits
