pub mod Telling
pub mod Running
pub mod Versions
pub mod Sending
