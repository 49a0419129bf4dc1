-- The definitions that the contracts of `frame_paint` cite.
pub mod Steps
pub mod Target
pub mod Pixel
pub mod Paint
pub mod Row
