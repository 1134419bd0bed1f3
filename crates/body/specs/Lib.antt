-- what good bodies are
pub mod Origin
pub mod RouterKey
pub mod Aspa
pub mod Tag
-- what the code asks on the way
pub mod Halves
pub mod Leaves
pub mod Sound
