-- what the calls answer and write
pub mod Answer
-- what the contracts of inner functions say
pub mod Tally
pub mod Put
pub mod Left
