-- Document 01's examples.
pub mod Board
pub mod WholeRun
