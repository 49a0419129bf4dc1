-- Laws of a run of words, which the proofs of its functions share.
pub mod Entries
pub mod Answers
pub mod Columns
pub mod Along
pub mod Ran
