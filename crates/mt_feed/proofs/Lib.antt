pub mod FaringLemmas
