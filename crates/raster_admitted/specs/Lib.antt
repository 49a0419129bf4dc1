-- The definitions that the contracts of `raster_admitted` cite.
pub mod Check
pub mod Checked
