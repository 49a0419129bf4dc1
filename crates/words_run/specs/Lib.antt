-- The definitions that the contracts of `words_run` cite.
pub mod Run
pub mod Entries
pub mod Written
