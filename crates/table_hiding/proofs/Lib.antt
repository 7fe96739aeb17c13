pub mod Reserved
pub mod Marked
pub mod Altered
pub mod Wants
pub mod Stepping
pub mod Keeping
