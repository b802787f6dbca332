pub mod Cuts
pub mod Decimals
pub mod Numbers
pub mod ReadBack
