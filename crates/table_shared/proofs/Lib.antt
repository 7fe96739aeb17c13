pub mod Staying
pub mod Listing
pub mod Running
pub mod Histories
pub mod Current
pub mod Meeting
