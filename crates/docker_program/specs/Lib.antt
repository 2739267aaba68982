pub mod SourceNames
pub mod Sources
pub mod Writing
pub mod Program
pub mod Commands
pub mod Replacing
pub mod ShelfRuns
