pub mod DeviceLemmas
pub mod FeedLemmas
