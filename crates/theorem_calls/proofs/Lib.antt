-- That a list of calls does not turn on the engines.
pub mod Engines
