-- The definitions that the contracts of `blender` cite, and where a coverage is settled.
pub mod Mux
pub mod Coverage
pub mod Known
pub mod Settled
pub mod Blend
pub mod Layer
pub mod Joined
