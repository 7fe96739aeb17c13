pub mod CountingLemmas
pub mod Device
pub mod DeviceCounting
pub mod Holding
pub mod Joining
pub mod Passing
pub mod Streams
pub mod Writing
