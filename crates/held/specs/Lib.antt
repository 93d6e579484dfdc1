pub mod Flow
pub mod Laws
