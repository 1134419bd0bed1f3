pub mod Steps
pub mod Standing
pub mod Bounds
pub mod Examples
