pub mod Version
pub mod Message
pub mod Record
pub mod Say
pub mod Read
pub mod Hear
pub mod Take
