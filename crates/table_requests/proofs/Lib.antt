pub mod ById
pub mod Lookups
pub mod Summing
mod CountedPins
mod CountedHolds
mod InTheWay
mod Kept
mod NextIds
mod PinCounting
mod Stepping
