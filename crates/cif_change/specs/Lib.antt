pub mod Meaning
pub mod Joined
pub mod Acts
pub mod Cause
pub mod JourneyRead
