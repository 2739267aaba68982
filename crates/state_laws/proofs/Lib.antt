pub mod texts
pub mod states
pub mod joins
pub mod indexes
pub mod examples
