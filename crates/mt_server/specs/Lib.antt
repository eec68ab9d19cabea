pub mod Interleavings
pub mod Desks
pub mod Replies
pub mod Offices
pub mod Connections
pub mod Turns
pub mod Workers
