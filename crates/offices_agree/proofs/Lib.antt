pub mod TwoOfficesFiles
pub mod TwoOfficesDocker
pub mod TwoOfficesSteps
pub mod DeskSteps
pub mod DeskAndOfficeSteps
