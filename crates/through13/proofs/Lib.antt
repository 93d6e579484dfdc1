pub mod Through13
