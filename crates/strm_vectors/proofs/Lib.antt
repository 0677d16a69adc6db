pub mod SpelledRows
pub mod PairRows
