-- what `apply` answers of an item that cannot be applied
pub mod Fit
-- what the contracts of inner functions say
pub mod Fitting
