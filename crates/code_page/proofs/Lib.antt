pub mod PagesAsked
pub mod PagesPassed
pub mod PagesRead
