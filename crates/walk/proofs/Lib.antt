pub mod Walking
pub mod Lengths
pub mod OriginTurns
pub mod Passing
