pub mod Heads
pub mod Fixing
pub mod Records
