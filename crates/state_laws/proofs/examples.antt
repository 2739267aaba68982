pub mod StateExamples
pub mod OrderExamples
pub mod SummaryExamples
pub mod StateFaultExamples
pub mod HorizonExamples
pub mod StagingExamples
