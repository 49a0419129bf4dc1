-- Demand 3's theorem, and its laws.
pub mod Alike
pub mod Runs
