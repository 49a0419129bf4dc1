-- Laws of the frame and of tests, which the proofs over it share.
pub mod Tests
pub mod Fits
pub mod Loads
pub mod Refusals
pub mod Knows
pub mod Alike
