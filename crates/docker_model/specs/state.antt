-- States: orders, stamps and the floor, ops and entries, the plain table, the rows of a table,
-- lapsing, joins, summaries, and the texts of states.

pub mod Order
pub mod Stamp
pub mod Op
pub mod Table
pub mod Row
pub mod Lapse
pub mod State
pub mod Summary
pub mod StateText
pub mod StatePart
pub mod StateFault
