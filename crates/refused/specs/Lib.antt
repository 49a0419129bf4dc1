-- The definitions that the contracts of `refused` cite.
pub mod Numbers
pub mod Refused
