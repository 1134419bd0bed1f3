pub mod Asking
pub mod Forming
pub mod Replying
pub mod Pushing
pub mod Laying
pub mod Adding
pub mod Updating
