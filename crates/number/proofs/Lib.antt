pub mod Numbers
pub mod Eights
pub mod Values
