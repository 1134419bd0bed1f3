-- what the contracts of inner functions say
pub mod Cursor
pub mod Front
pub mod Lone
pub mod Walk
