-- what the contracts of inner functions say
pub mod Place
pub mod Front
pub mod Reading
pub mod Copy
pub mod Write
