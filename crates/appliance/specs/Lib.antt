pub mod QueryAll
pub mod Promise
-- what only the contracts of inner functions say
pub mod Turn
