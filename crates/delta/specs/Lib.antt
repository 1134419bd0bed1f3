pub mod Refusal
pub mod Admission
pub mod Answer
pub mod Demand
pub mod Shortest
-- what only the contracts of inner functions say
pub mod Inputs
