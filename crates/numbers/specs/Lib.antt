pub mod Numbered
pub mod InParts
pub mod Items
