-- what the contracts of inner functions say; what the entries answer stands in the crate `past`
pub mod Check
pub mod Push
pub mod Stage
