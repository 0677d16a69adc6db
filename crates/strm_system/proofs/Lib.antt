pub mod Counting
pub mod Openers
pub mod Reading
pub mod Taken
pub mod Tallying
pub mod Unread
pub mod UnreadTurns
pub mod Written
