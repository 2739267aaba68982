-- Files: journeys and schedules, texts, faults, and the changes of a file.

pub mod Journey
pub mod File
pub mod Text
pub mod FileFault
pub mod FaultSoFar
pub mod Change
