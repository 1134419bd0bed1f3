pub mod Change
pub mod Difference
pub mod Merge
pub mod Application
pub mod History
pub mod Grouping
pub mod Part
-- what only laws name
pub mod Held
pub mod Short
pub mod Balance
