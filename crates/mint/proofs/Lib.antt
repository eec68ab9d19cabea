mod ChainLemmas
mod DoingLemmas
mod DoneLemmas
mod GeneratingLemmas
mod GrowthLemmas
mod HiringLemmas
mod InputLemmas
mod RunLemmas
mod ServingLemmas
mod WordLemmas
pub mod SequenceLemmas
