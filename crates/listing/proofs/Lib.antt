pub mod Decimals
pub mod Putting
pub mod Lining
pub mod Reporting
pub mod Answering
pub mod Sizes
pub mod Examples
