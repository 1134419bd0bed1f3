pub mod Fronts
pub mod Fields
pub mod Keys
pub mod Run
pub mod Encode
pub mod Walk
pub mod Common
pub mod Examples
