pub mod Fresh
pub mod Laws
