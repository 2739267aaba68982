-- Dockers: events, the choice of schedules and associations, lines, lists and printed texts. The
-- module `Permanent` is for dockers without the short-term plan, and `DetailedText` for dockers with
-- the records of each line.

pub mod Event
pub mod Choice
pub mod DockerLine
pub mod Association
pub mod DockerList
pub mod DockerText
pub mod DetailedText
pub mod Permanent
