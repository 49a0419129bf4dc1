-- What several proofs of `blender` share, and the laws that callers cite.
pub mod Range
pub mod Solid
pub mod Knows
pub mod Settled
pub mod Layers
