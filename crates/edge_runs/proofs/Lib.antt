pub mod Edges
pub mod Items
pub mod EdgesRead
pub mod EdgesChecked
pub mod Going
