pub mod Promise
-- what only proofs name
pub mod Send
pub mod Heard
