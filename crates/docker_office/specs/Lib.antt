pub mod Faults
pub mod Office
pub mod OfficeReads
pub mod RunMeaning
pub mod RunSteps
pub mod RunEnds
