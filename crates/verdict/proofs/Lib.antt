pub mod Judging
pub mod Fieldwords
pub mod Passing
