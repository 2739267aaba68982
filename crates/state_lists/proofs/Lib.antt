mod Counts
mod Lines
mod TallyLemmas
mod KnownLemmas
mod ListLaws
