pub mod TwoOffices
pub mod DeskAndOffice
