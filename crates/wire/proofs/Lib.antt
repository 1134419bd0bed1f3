pub mod Saying
pub mod Counting
pub mod Looping
pub mod Running
pub mod Framing
pub mod Sizing
pub mod Sending
pub mod Examples
