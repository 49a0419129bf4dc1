-- The definitions that the contracts of `combiner_inputs` cite.
pub mod Combine
pub mod Cycles
pub mod Inputs
