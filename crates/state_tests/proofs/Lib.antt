pub mod Offered
pub mod TestLemmas
