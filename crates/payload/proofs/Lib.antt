pub mod Known
pub mod Back
pub mod Forth
pub mod Faithful
pub mod Counts
pub mod Closed
pub mod Sizes
