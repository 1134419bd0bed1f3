pub mod Repeating
pub mod Replying
pub mod Turning
pub mod Gathering
pub mod Promising
pub mod Examples
