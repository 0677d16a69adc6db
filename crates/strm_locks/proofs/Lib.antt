pub mod Booking
pub mod Calling
pub mod Keeps
pub mod Refusing
pub mod Reports
pub mod Rows
pub mod Sums
