pub mod Masks
pub mod Prefixes
pub mod Bodies
pub mod Ascent
pub mod Tags
pub mod Digits
pub mod Sizes
pub mod Examples
