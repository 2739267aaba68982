pub mod RowLines
pub mod Tallies
pub mod Gained
