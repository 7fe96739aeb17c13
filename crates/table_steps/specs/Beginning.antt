-- The parts of a begin, in terms of the running totals.
use Rattle.std.specs.Prelude.{ℕ, ℤ, Option, Some, None, ◌+◌, ◌*◌, ◌^◌, ◌<◌, ◌≤◌, ◌≡◌, ◌⊎◌, length}
use Rattle.errno.specs.declared.TheConstants.{EAGAIN, EBADF, ENFILE}
use Rattle.ledger.specs.Sums.{totals_over}
use Rattle.table_files.specs.OpenEntry.{files_of}
use Rattle.table_requests.specs.declared.data.Case.{Case}
use Rattle.table_requests.specs.declared.data.Handle.{Handle}
use Rattle.table_requests.specs.declared.data.Promise.{Promise}
use Rattle.table_requests.specs.Listed.{requests_of}
use Rattle.terms.specs.declared.limits.Counts.TheVariants.{Bounded, Free}
use Rattle.table_steps.specs.declared.state.State.{State}
use Rattle.table_requests.specs.declared.data.Want.{Want}
use Rattle.table_footprints.specs.Cases.{IsFootprint}
use Rattle.table_footprints.specs.Footprints.{Footprint, Used, footprint_of}
use Rattle.table_steps.specs.Kept.{world_of}
use Rattle.table_steps.specs.Steps.{IsBadHandle, Leaves, files_without}
use Rattle.table_steps.specs.World.{World, seen_in}

-- the files that may be opened stay within the limit, and handles are left for them
pub record HasHandles (s : State) (p : Promise) : Type 0 where
  pub files : (files_of s.files).many + (requests_of s.flights).files + p.files ≤ s.limits.files
  pub handles : (files_of s.files).last + (requests_of s.flights).files + p.files < 2 ^ 64

-- if counts are bounded the period has postings left for it, and otherwise a period that has just begun has
pub record HasPostings (s : State) (p : Promise) : Type 0 where
  pub bounded : s.limits.counts ≡ Bounded → length s.ledger.made.last + s.tree.counts + (requests_of s.flights).postings + p.postings ≤ s.limits.postings
  pub begun : s.limits.counts ≡ Free → s.limits.nodes + (requests_of s.flights).postings + p.postings ≤ s.limits.postings

-- the limits allow one more request with this promise
pub record Allows (s : State) (p : Promise) : Type 0 where
  pub nodes : s.tree.living + (requests_of s.flights).nodes + p.nodes ≤ s.limits.nodes
  pub postings : HasPostings s p
  pub entries : 3 * (totals_over s.ledger.made).entries + (requests_of s.flights).postings + p.postings < 3 * 2 ^ 64
  pub flights : (requests_of s.flights).many + 1 ≤ s.limits.flights
  pub handles : HasHandles s p

-- with this promise the nodes, the postings, the entries, the open files or the handles would exceed their limit
abbrev pub IsTooMuch : State → Promise → Type 0
IsTooMuch s p =
    (s.limits.nodes < s.tree.living + (requests_of s.flights).nodes + p.nodes)
    ⊎ ((HasPostings s p → ⊥)
    ⊎ ((3 * 2 ^ 64 ≤ 3 * (totals_over s.ledger.made).entries + (requests_of s.flights).postings + p.postings)
    ⊎ (HasHandles s p → ⊥)))

-- why the limits refuse it: the first test that fails
abbrev pub Forbids : State → Promise → ℤ → Type 0
Forbids s p e = ((e ≡ ENFILE) × IsTooMuch s p) ⊎ ((e ≡ EAGAIN) × (IsTooMuch s p → ⊥) × (s.limits.flights < (requests_of s.flights).many + 1))

-- the handle that the want's footprint uses, in some case, is not open, is open on another node, or lacks the access
pub record IsRefusedHandle (w : World) (want : Want) (e : ℤ) : Type 0 where
  pub footprint : Footprint
  pub footprint_is : IsFootprint (seen_in w) want footprint
  pub errno : e ≡ EBADF
  pub bad : IsBadHandle w footprint

-- no case of the want's footprint has a bad handle
abbrev pub IsHandleUsable : World → Want → Type 0
IsHandleUsable w want = (c : Case) → IsBadHandle w (footprint_of want c) → ⊥

-- the handle that a want uses, and the node that its file must belong to
abbrev pub used_in : Option (ℕ × Handle) → Option Used
used_in None = None
used_in (Some used) = Some (record { number = used.0; handle = used.1 })

-- the file under the handle is closed, if there is one, and what nothing keeps alive any more is dropped
pub record ClosesFile (old : World) (handle : Option ℕ) (new : World) : Type 0 where
  pub leaves : Leaves old.at handle new
  pub new_is : new ≡ record old { at = new.at; files = files_without handle old.files }

-- there is room for one more request with this promise
pub record IsRoomForOne (s : State) (promise : Promise) : Type 0 where
  pub nodes : (requests_of s.flights).nodes + promise.nodes ≤ s.tree.room
  pub births : (requests_of s.flights).nodes + promise.nodes ≤ s.ledger.places
  pub postings : s.limits.counts ≡ Bounded → s.tree.counts + (requests_of s.flights).postings + promise.postings ≤ s.ledger.room
  pub flights : 0 < (requests_of s.flights).room
  pub files : (requests_of s.flights).files + promise.files ≤ (files_of s.files).room

-- only the room of the parts has changed
pub record IsSameButRoom (old new : State) : Type 0 where
  pub world : world_of new ≡ world_of old
  pub tree : new.tree ≡ record old.tree { room = new.tree.room }
  pub made : new.ledger.made ≡ old.ledger.made
  pub ledger_limit : new.ledger.limit ≡ old.ledger.limit
  pub flights : requests_of new.flights ≡ record (requests_of old.flights) { room = (requests_of new.flights).room }
  pub limits : new.limits ≡ old.limits
  pub counts : new.counts ≡ old.counts
  pub files : files_of new.files ≡ record (files_of old.files) { room = (files_of new.files).room }
  pub counter : new.counter ≡ old.counter
