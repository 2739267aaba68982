pub mod SameLines
pub mod JoinedLines
pub mod JourneyLemmas
pub mod SameKeys
