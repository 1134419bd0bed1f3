pub mod Serial
pub mod Rfc1982
pub mod Timing
pub mod Rfc8210
