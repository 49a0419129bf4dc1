-- The definitions that the contracts of `c_emitted` cite.
pub mod Emitted
