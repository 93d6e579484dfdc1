pub mod Lists
pub mod Plain
