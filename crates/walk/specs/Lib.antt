-- what the contracts of inner functions say
pub mod Walk
pub mod Origins
