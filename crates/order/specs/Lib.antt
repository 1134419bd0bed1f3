pub mod Comparison
pub mod Map
pub mod Walk
-- what only inner contracts and laws name
pub mod Many
