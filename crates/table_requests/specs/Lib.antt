pub mod Roomy
pub mod PinCounts
pub mod RequestMaps
pub mod Listed
pub mod HeldPaths
pub mod Totals
