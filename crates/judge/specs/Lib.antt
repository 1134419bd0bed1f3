-- what `judge` answers
pub mod Answer
pub mod Promise
-- what the contracts of inner functions say
pub mod Walk
pub mod State
