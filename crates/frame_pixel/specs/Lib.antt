-- The definitions that the contracts of `frame_pixel` cite; and those of the theorems: alike pixels, pixels of which one knows at least what the other knows, and what is certain.
pub mod Marks
pub mod Rules
pub mod Coloring
pub mod Full
pub mod Alike
pub mod Knows
pub mod Certain
