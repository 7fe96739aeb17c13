mod Counting
mod Keeping
pub mod Listing
mod Stepping
