pub mod Dates
pub mod Columns
pub mod RecordTests
pub mod GoodFields
pub mod RecordIdentity
pub mod ScheduledTimes
pub mod Builders
pub mod Locations
