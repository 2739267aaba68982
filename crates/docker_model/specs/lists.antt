-- The lists that a desk prints, besides dockers and the files of a ledger. They show what an office
-- knows, its timing points, the schedule that is chosen for a UID on a day, and the trains with an
-- identity.

pub mod KnownText
pub mod PlacesText
pub mod TrainText
pub mod TrainsText
