pub mod KnownSets
pub mod GoodKnowledge
pub mod MessageTexts
pub mod RunSteps
pub mod RunEnd
