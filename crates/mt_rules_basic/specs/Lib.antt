pub mod Axioms
pub mod Rules
