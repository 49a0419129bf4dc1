-- The definitions that the contracts of `words_read` cite.
pub mod Read
pub mod Format
