pub mod Tables
pub mod Agree
