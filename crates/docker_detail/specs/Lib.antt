pub mod DetailedValue
pub mod Records
pub mod OriginText
pub mod Finding
pub mod Meaning
pub mod Known
