pub mod Prelude
pub mod OwnPassing
pub mod Replies
mod FirstAsks
mod Sought
mod Waking
mod Flushing
mod Queueing
mod FirstServed
