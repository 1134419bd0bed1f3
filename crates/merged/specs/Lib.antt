-- what the contracts of inner functions say
pub mod Place
pub mod Put
