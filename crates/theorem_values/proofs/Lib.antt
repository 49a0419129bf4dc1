-- The statement over the table.
pub mod Holds
