pub mod AbstractPairs
pub mod PairLemmas
