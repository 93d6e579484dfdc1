pub mod Cut
pub mod Rules
