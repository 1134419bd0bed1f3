pub mod Answering
pub mod Numbers
pub mod Differences
pub mod Demand
pub mod Leading
pub mod Balance
pub mod Shortest
pub mod Examples
