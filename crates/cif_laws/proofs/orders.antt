pub mod AtMost
pub mod Orders
pub mod Greater
pub mod Ascending
pub mod ByteOrder
pub mod Least
