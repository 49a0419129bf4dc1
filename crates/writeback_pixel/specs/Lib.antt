-- The definitions that the contracts of `writeback_pixel` cite, and the calls by a count.
pub mod Refusal
pub mod Calls
pub mod Counted
