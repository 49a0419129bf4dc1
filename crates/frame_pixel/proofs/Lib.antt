-- What several proofs of crate `frame_pixel` share, and the laws that other crates cite.
pub mod Asked
pub mod Eight
pub mod Alike
pub mod Knows
pub mod Certain
pub mod Colorings
pub mod Fulls
