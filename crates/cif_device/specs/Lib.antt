pub mod Device
pub mod Taken
pub mod FeedEnds
