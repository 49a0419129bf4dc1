-- What several proofs of `num_float` share, and other crates cite too.
pub mod Values
pub mod Scaled
pub mod Cut
pub mod Fourfold
pub mod Placed
pub mod Clipped
pub mod Bytes
pub mod Index
