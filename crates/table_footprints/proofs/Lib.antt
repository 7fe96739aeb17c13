pub mod Pathless
mod Lasting
pub mod Members
pub mod FootprintLemmas
pub mod Deciding
mod Finding
mod Gathering
mod Agreeing
pub mod Wanting
mod Paging
pub mod Removing
