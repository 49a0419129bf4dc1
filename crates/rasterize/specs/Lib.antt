-- The definitions that the contracts of `rasterize` cite.
pub mod Shape
pub mod Triangles
