pub mod Fit
pub mod Next
