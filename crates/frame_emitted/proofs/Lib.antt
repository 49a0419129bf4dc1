-- What the proofs of `frame_emitted` share, and the laws of its answers, among them that the engine does not show.
pub mod Slots
pub mod Answers
pub mod Frames
pub mod Ends
pub mod Engines
