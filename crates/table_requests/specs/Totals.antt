-- The invariant of the list of requests, with what is counted of it.
use Rattle.std.specs.Prelude.{◌+◌, ◌<◌, ◌≡◌, ◌^◌, ℕ, List}
use Rattle.table_requests.specs.declared.data.RequestInFlight.{RequestInFlight}
use Rattle.table_requests.specs.declared.data.Promise.{Promise}
use Rattle.table_requests.specs.declared.held_paths.HeldPaths.{HeldPaths}
use Rattle.table_requests.specs.declared.pin_counts.PinCounts.{PinCounts}
use Rattle.table_requests.specs.HeldPaths.{AreHolders}
use Rattle.table_requests.specs.Listed.{AreBelow, HaveOwnIds, files_in, flight_in, nodes_in, postings_in}
use Rattle.table_requests.specs.PinCounts.{AreCounted, pins_in}

-- the requests, with counts of their pins and of the paths that they hold, with running totals, and with an id above
-- all of theirs, if one is known
pub record IsTotalled (fs : List RequestInFlight) (pinned : PinCounts) (paths : HeldPaths) (promised : Promise) (next : ℕ) : Type 0 where
  pub apart : HaveOwnIds fs
  pub counted : AreCounted pinned (pins_in fs)
  pub held : AreHolders paths fs
  pub below : next + 1 < 2 ^ 64 → AreBelow next (flight_in fs)
  pub nodes : promised.nodes ≡ nodes_in fs
  pub postings : promised.postings ≡ postings_in fs
  pub files : promised.files ≡ files_in fs
