pub mod CacheLemmas
pub mod StandLemmas
mod FindLemmas
pub mod WayLemmas
pub mod SeenLemmas
pub mod ListLemmas
mod OrderLemmas
pub mod PartLemmas
pub mod FileEnds
pub mod KeptCases
pub mod MakeEnds
pub mod LinkEnds
pub mod RemoveEnds
pub mod MoveEnds
pub mod NewEnds
pub mod UnseenEnds
pub mod Witnesses
pub mod MoveWitnesses
pub mod NameEnds
pub mod NameWitnesses
pub mod CallEnds
pub mod AttributeEnds
