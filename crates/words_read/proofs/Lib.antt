-- Laws of a word read, which the proofs of its functions and of a run's share.
pub mod Reading
