-- What is proved of `c_types` beyond its contracts.
pub mod Back
