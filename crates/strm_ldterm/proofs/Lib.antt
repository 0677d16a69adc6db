pub mod Prelude
mod Columns
mod EchoBytes
mod LineEnds
mod PlainBytes
pub mod Unmarked
pub mod FreeBefore
pub mod PlainRuns
mod Runs
pub mod Fresh
pub mod Last
pub mod Beside
pub mod Steps
pub mod Asked
pub mod Flows
pub mod FrontOut
pub mod Flushed
pub mod Passing
pub mod Turning
pub mod Counting
pub mod Joining
pub mod Sends
pub mod Grows
pub mod EchoSteps
pub mod EchoStands
pub mod Rewriting
pub mod Strikes
pub mod Gathered
pub mod Returning
pub mod Proceeding
pub mod Finished
pub mod OutWhole
pub mod Passed
pub mod Rebanded
pub mod Skipped
pub mod Begun
pub mod Signals
pub mod Struck
pub mod Treated
pub mod RunsDone
pub mod Marks
pub mod Lanes
pub mod Bytes
pub mod Calls
pub mod Freeing
pub mod Turned
pub mod Onward
pub mod Spending
pub mod Spared
pub mod Pouring
pub mod Whole
pub mod WholeOut
pub mod Poured
pub mod Outgone
pub mod TakingUp
mod Standing
