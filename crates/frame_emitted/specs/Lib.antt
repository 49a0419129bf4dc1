-- The definitions that the contracts of `frame_emitted` cite.
pub mod Emitted
pub mod Run
pub mod Places
pub mod Outcomes
