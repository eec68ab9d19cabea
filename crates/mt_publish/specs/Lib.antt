pub mod Prefixes
pub mod States
pub mod Copies
pub mod Stories
pub mod Rule
