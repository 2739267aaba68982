pub mod Common
pub mod lists
pub mod orders
pub mod records
pub mod schedules
pub mod files
pub mod examples
