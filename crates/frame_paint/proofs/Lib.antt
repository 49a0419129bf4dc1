-- Laws of emitted pixels on the frame, which the proofs of functions share, also those of the crates above.
pub mod Fits
pub mod Steps
pub mod Drawing
pub mod Paints
pub mod Filled
pub mod Joins
