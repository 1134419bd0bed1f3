-- what the contracts of inner functions say
pub mod Write
