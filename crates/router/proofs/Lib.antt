pub mod Trip
pub mod Heard
pub mod Routers
pub mod Octets
pub mod Running
