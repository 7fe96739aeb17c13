pub mod Remaining
mod Few
mod Filing
pub mod Staying
mod Following
mod Landing
mod KeptMarks
mod Disturbing
mod DisturbedSteps
pub mod StillUndisturbed
pub mod Guarding
pub mod Beginning
pub mod Finishing
pub mod Growing
mod Recording
pub mod Adding
pub mod Ordered
pub mod Booked
pub mod Reasons
pub mod Lawful
pub mod Backs
pub mod Viewed
pub mod Kept
pub mod Settling
pub mod Apart
pub mod Tallying
pub mod Attesting
pub mod Testing
pub mod Starting
pub mod Refusing
mod Using
mod OneClosed
mod OneFile
mod Offering
pub mod Reserving
pub mod Entering
pub mod Placing
mod Ended
pub mod Ends
pub mod RootAlone
pub mod Rooted
pub mod Giving
mod Altering
pub mod Marking
mod Replacing
pub mod Changing
pub mod Answering
mod Filling
pub mod NewlyCut
mod Exchanging
mod NextPeriod
mod ListingLiving
mod PeriodKept
pub mod PeriodSums
