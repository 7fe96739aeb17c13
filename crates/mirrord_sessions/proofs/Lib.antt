pub mod Devices
pub mod KnownRuns
pub mod LinkedRuns
pub mod Streaming
pub mod Sampling
pub mod Writing
pub mod Sockets
