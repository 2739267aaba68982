pub mod FaultText
pub mod ReadFaultText
pub mod StateReading
pub mod ParserRead
pub mod SourceRead
pub mod ReadEnds
pub mod StateTaken
pub mod Excerpts
