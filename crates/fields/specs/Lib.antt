pub mod Valid
pub mod Fill
pub mod Rows
