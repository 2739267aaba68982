pub mod TextStage
pub mod LawTerms
pub mod Index
pub mod Staging
pub mod CountedRows
