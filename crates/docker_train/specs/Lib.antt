pub mod Answer
pub mod Origin
pub mod TrainsListed
pub mod TrainRows
