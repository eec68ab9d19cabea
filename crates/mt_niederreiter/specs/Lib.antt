pub mod Expansions
pub mod Laws
pub mod Matrices
pub mod Rows
