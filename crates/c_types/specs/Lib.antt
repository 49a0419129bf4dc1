-- The definitions that the contracts of `c_types` cite.
pub mod Convert
