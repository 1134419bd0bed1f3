pub mod Summing
pub mod Sizing
pub mod Putting
pub mod Placing
