pub mod RowLemmas
pub mod SequenceLemmas
pub mod AxiomLemmas
pub mod AbstractQuotients
pub mod QuotientLemmas
pub mod PaddedLemmas
