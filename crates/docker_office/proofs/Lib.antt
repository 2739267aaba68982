pub mod FilesLemmas
pub mod OfficeLemmas
pub mod MetEvents
pub mod RunSoFar
pub mod RunClauses
pub mod EndedRuns
