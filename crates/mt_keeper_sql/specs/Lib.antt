pub mod Keepers
pub mod Opening
pub mod Rows
pub mod Standing
pub mod Store
