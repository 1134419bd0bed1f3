pub mod Precede
pub mod Sorting
pub mod Settling
pub mod Merging
pub mod Running
pub mod Joining
pub mod Examples
