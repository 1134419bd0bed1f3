-- what the contracts of inner functions say
pub mod Left
pub mod Turn
pub mod Skip
pub mod Seek
pub mod Stretch
