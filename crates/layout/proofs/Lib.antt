pub mod Alike
pub mod FilledIn
pub mod Judged
