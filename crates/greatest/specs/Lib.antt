pub mod Numbers
pub mod Greatest
