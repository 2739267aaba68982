pub mod Making
pub mod CopyLemmas
pub mod CountLemmas
pub mod PageLemmas
pub mod StandingLemmas
pub mod ShelfLemmas
pub mod TransferLemmas
pub mod StreamsLemmas
