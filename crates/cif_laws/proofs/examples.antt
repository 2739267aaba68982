pub mod RecordExamples
pub mod FileExamples
pub mod StageExamples
