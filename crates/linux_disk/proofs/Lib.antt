pub mod FileLemmas
pub mod NameLemmas
pub mod NumberLemmas
pub mod PageLemmas
pub mod WayLemmas
