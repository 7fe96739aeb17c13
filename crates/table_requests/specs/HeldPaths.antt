-- How many requests in flight hold each path.
use Rattle.std.specs.Prelude.{ℕ, ◌+◌, ◌≡◌, List, Option, Some, None, count_by}
use Rattle.paths.specs.Prefixes.{Names}
use Rattle.holds.specs.Numbers.{AreNumbers, counted_in, holders_on}
use Rattle.holds.specs.declared.held.Held.{Held}
use Rattle.table_requests.specs.declared.data.RequestInFlight.{RequestInFlight}
use Rattle.table_requests.specs.declared.data.Stage.{Stage}
use Rattle.table_requests.specs.declared.data.Stage.TheVariants.{Working, Answered}
use Rattle.table_requests.specs.declared.held_paths.HeldPaths.{HeldPaths}
use Rattle.table_requests.specs.Listed.{flight_in}
use Rattle.table_requests.specs.RequestMaps.{has_exclusive, has_shared}

-- how many requests in progress share the path, and how many hold it exclusively
abbrev pub sharers_in : List RequestInFlight → Names → ℕ
sharers_in fs path = count_by (λ (f : RequestInFlight). has_shared f.stage path) fs

abbrev pub owners_in : List RequestInFlight → Names → ℕ
owners_in fs path = count_by (λ (f : RequestInFlight). has_exclusive f.stage path) fs

-- what a request holds, if it is in progress
abbrev pub held_at : Stage → Option Held
held_at (Working work) = Some work.held
held_at (Answered before opened) = None

abbrev pub held_by : Option RequestInFlight → Option Held
held_by None = None
held_by (Some f) = held_at f.stage

-- what the request with that id holds, if there is an id
abbrev pub held_under : List RequestInFlight → Option ℕ → Option Held
held_under fs None = None
held_under fs (Some id) = held_by (flight_in fs id)

-- one, if this is held and shares the path, or holds it exclusively
abbrev pub shared_once : Option Held → Names → ℕ
shared_once None path = 0
shared_once (Some held) path = counted_in held.shared path 1

abbrev pub owned_once : Option Held → Names → ℕ
owned_once None path = 0
owned_once (Some held) path = counted_in held.exclusive path 1

-- the two numbers of each path, together with what the uncounted request holds, are the counts over all requests
pub record AreHolders (held : HeldPaths) (fs : List RequestInFlight) : Type 0 where
  pub law : AreNumbers held.numbers
  pub shared : (path : Names) → (holders_on held.numbers path).shared + shared_once (held_under fs held.uncounted) path ≡ sharers_in fs path
  pub exclusive : (path : Names) → (holders_on held.numbers path).exclusive + owned_once (held_under fs held.uncounted) path ≡ owners_in fs path
  -- the uncounted request is in progress
  pub there : held_under fs held.uncounted ≡ None → held.uncounted ≡ None

-- the request with that id held this and is no longer in progress; the others hold what they held
pub record LoseHolder (old : List RequestInFlight) (id : ℕ) (held : Held) (new : List RequestInFlight) : Type 0 where
  pub here : held_by (flight_in old id) ≡ Some held
  pub others : (k : ℕ) → (id ≡ k → ⊥) → held_by (flight_in new k) ≡ held_by (flight_in old k)
  pub shared : (path : Names) → sharers_in new path + counted_in held.shared path 1 ≡ sharers_in old path
  pub exclusive : (path : Names) → owners_in new path + counted_in held.exclusive path 1 ≡ owners_in old path

-- each path has as many holders in both lists
pub record HaveSameHolders (old new : List RequestInFlight) : Type 0 where
  pub shared : (path : Names) → sharers_in new path ≡ sharers_in old path
  pub exclusive : (path : Names) → owners_in new path ≡ owners_in old path
