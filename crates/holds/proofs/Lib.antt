pub mod Among
pub mod Numbering
pub mod Prefixing
mod Under
