pub mod Sorting
pub mod Keeping
pub mod Collecting
pub mod Bounding
pub mod Surveying
pub mod Examples
