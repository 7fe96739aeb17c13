pub mod Counting
pub mod Longer
pub mod Holders
pub mod Exporting
pub mod Gaining
pub mod Leaving
pub mod Renewing
pub mod Closing
