pub mod Fitting
pub mod Orders
pub mod Sorting
pub mod Showing
pub mod Counting
