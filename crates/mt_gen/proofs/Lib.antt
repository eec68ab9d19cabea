pub mod StreamLemmas
pub mod NameLemmas
pub mod ChoiceLemmas
pub mod ListLemmas
pub mod DrawnLemmas
