pub mod Devices
pub mod Frames
pub mod Joined
pub mod Parts
pub mod Passed
