pub mod Never
pub mod Comparison
pub mod Map
pub mod Walk
pub mod Many
