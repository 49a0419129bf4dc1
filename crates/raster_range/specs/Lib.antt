-- What a range keeps of the pixels or rows that it is a part of, and what all of it has.
pub mod Kept
pub mod Inner
