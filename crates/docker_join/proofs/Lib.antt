pub mod Lookup
pub mod MeantOrder
pub mod LapsedRows
pub mod PlacedRows
