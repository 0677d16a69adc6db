pub mod Prelude
pub mod Seen
pub mod Drawing
pub mod Parted
pub mod Leaving
pub mod Heads
pub mod Getting
pub mod Sending
