-- What the proofs of `c_emitted` share, and the law that its pixels are the emitted list.
pub mod Emitted
