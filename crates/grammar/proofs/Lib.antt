pub mod Numerals
pub mod Meaning
pub mod Firm
pub mod Begun
pub mod Reading
pub mod Texts
