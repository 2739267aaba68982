pub mod FieldRead
pub mod Letter
pub mod Tiploc
pub mod Kind
pub mod RecordRead
pub mod View
pub mod TimeRead
pub mod CallRead
