-- An event from bytes over the room's arrays is the rules' `take`.
pub mod Answers
pub mod Takes
pub mod TakesHead
pub mod TakesWait
