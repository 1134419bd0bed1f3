pub mod Text
pub mod Listing
pub mod Report
pub mod Answer
-- what only the contracts of inner functions say
pub mod Put
pub mod Told
