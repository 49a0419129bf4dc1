-- The definitions that the contracts of `frame_draw` cite.
pub mod Checks
pub mod Draw
pub mod Answered
pub mod Outcome
