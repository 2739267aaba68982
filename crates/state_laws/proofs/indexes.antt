pub mod OneIndex
pub mod CallsTest
pub mod IndexSegment
