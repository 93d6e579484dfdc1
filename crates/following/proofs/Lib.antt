pub mod Seeking
pub mod Following
