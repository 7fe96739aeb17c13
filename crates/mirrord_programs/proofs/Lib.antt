pub mod Ends
pub mod Threads
pub mod Devices
pub mod Sockets
