pub mod Sorted
-- what the contracts of functions say
pub mod Sort
