pub mod Expansion
pub mod RowLemmas
pub mod DegreeLemmas
pub mod Bridge
pub mod TermLemmas
pub mod StepLemmas
pub mod MatrixLemmas
