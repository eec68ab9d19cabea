pub mod Faring
pub mod Kept
pub mod Lines
pub mod Written
