pub mod Conflicts
pub mod Few
pub mod Numbers
pub mod Under
