-- What several proofs of `combiner_inputs` share.
pub mod Tables
pub mod Words
