pub mod Place
pub mod Field
pub mod Heard
-- what inner functions ask and how far they have come
pub mod Compare
pub mod Put
pub mod Step
