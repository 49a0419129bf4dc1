-- The ten rows.
pub mod Table
