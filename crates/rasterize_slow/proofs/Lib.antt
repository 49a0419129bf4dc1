-- What several proofs of `rasterize_slow` share.
pub mod Samples
pub mod Sending
pub mod Emitted
