-- Laws of a draw, which the proofs of its functions share, and what it leaves of the frame, for the crates above it; and that the engine does not show.
pub mod Refusals
pub mod Plans
pub mod Frames
pub mod Engines
