pub mod WalkOn
pub mod PutTexts
pub mod EventPlaces
pub mod FoundOrigins
pub mod InOrder
pub mod Printed
pub mod KnownPairs
