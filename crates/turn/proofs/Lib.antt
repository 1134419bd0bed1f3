pub mod Turning
pub mod Skipping
pub mod Seeking
pub mod Stretching
