-- The definitions that the contracts of `c_frame` cite.
pub mod Frames
pub mod Engines
