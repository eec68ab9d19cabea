mod CanonicalLemmas
mod LineLemmas
mod NumberLemmas
pub mod HeaderLemmas
mod RowLemmas
mod SourceLemmas
mod ReadingLemmas
mod LawLemmas
mod WithdrawalLemmas
mod EventLemmas
