pub mod LineLemmas
pub mod WordLemmas
pub mod RequestLemmas
pub mod ShowLemmas
pub mod WritingLemmas
pub mod MatchLemmas
pub mod ReadFiles
pub mod HistoryLemmas
mod SessionWordsLemmas
mod KnownLemmas
mod FixedLemmas
mod TrainLemmas
mod ReadingLemmas
mod ReadLinesLemmas
mod UseLemmas
mod TurnLemmas
mod EndLemmas
mod StepLemmas
mod HelpLemmas
mod ServeLemmas
mod GivenLemmas
mod LookLemmas
mod ReplacingLemmas
mod UnsavedLemmas
mod HeardLemmas
mod GainLemmas
mod WitnessLemmas
mod PermanentLemmas
mod DetailLemmas
