-- What several proofs share, and the law that a call by a mask is the call by its number of ones.
pub mod Counted
