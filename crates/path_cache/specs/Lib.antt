pub mod Keys
pub mod Places
pub mod Walks
pub mod Entries
pub mod Cache
