pub mod Sum
pub mod Living
pub mod Links
