pub mod Walks
pub mod Folding
pub mod Unique
pub mod Numbered
pub mod Blockwise
