pub mod Numbers
pub mod Calls
pub mod Replies
pub mod Turns
pub mod Packed
