-- The definitions that the contracts of `frame` cite, what may be loaded, when two frames are alike, and when one knows at least what another knows.
pub mod Frame
pub mod Lent
pub mod Fits
pub mod Slices
pub mod Shown
pub mod Loads
pub mod Checks
pub mod Finding
pub mod Alike
pub mod Knows
