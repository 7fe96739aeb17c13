pub mod Bits
pub mod Told
