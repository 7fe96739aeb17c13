pub mod Calls
pub mod Listings
pub mod Names
pub mod Pages
pub mod Lending
pub mod Counts
