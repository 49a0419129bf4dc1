-- What several proofs of `words_pack` share, and the laws of its definitions.
pub mod Channel
pub mod Word
pub mod Ranges
pub mod Units
pub mod Nans
pub mod Encoded
pub mod Squares
