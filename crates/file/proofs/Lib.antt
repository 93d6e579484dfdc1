pub mod NumbersRead
pub mod Stages
