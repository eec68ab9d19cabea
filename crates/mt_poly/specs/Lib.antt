pub mod Polynomials
pub mod CoprimeLists
