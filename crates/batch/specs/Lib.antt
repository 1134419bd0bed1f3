pub mod Next
-- what the contracts of inner functions say
pub mod Keep
pub mod Map
