-- Runs of events at several offices, and what each office knows.

pub mod Run
pub mod Knowledge
