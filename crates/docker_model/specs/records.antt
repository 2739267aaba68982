-- Records: their bytes and columns, dates, times, checked fields and printed times.

pub mod Record
pub mod Date
pub mod Clock
pub mod Field
pub mod PrintedTime
pub mod PrintedNumber
