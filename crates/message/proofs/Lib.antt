pub mod Examples
pub mod Taking
pub mod Spoken
pub mod Telling
