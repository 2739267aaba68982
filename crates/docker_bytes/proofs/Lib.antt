pub mod LineLemmas
pub mod ReadingLemmas
pub mod TextEnd
pub mod ReadLemmas
pub mod HeadLemmas
