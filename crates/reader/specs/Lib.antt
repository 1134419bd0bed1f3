pub mod Step
pub mod Stepping
pub mod Reading
pub mod Count
-- what only the contracts of inner functions say
pub mod Counting
