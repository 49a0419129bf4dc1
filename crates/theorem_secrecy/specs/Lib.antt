-- The definitions of demand 3's theorem.
pub mod Runs
