pub mod ScheduleStages
pub mod ScheduleFronts
pub mod ScheduleCauses
pub mod WorkedSchedule
