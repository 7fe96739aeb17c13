-- The parts of a table as a world, and their invariants.
use Rattle.std.specs.Prelude.{ℕ, ◌+◌, ◌*◌, ◌^◌, ◌<◌, ◌≤◌, ◌≡◌, Some, length, option_map}
use Rattle.table_files.specs.OpenEntry.{files_of}
use Rattle.table_files.specs.Handles.{AreOpenEntries, Opened}
use Rattle.table_requests.specs.declared.data.RequestInFlight.{RequestInFlight as Recorded}
use Rattle.table_requests.specs.declared.data.Promise.{Promise}
use Rattle.table_requests.specs.declared.data.Stage.{Stage as Recording}
use Rattle.table_requests.specs.declared.data.Stage.TheVariants as recorded
use Rattle.table_requests.specs.declared.data.Work.{Work as RecordedWork}
use Rattle.table_requests.specs.RequestMaps.{RequestMaps, AreLawfulRequests}
use Rattle.table_requests.specs.RequestMaps as maps
use Rattle.table_requests.specs.Listed.{requests_of}
use Rattle.table_steps.specs.Upheld.{IsUpheld}
use Rattle.ledger.specs.Postings.{Postings}
use Rattle.ledger.specs.Sums.{totals_over}
use Rattle.tree.specs.Places.{Nodes, at_in}
use Rattle.table_footprints.specs.NewRequests.{IsProvided, footprint_in}
use Rattle.terms.specs.declared.limits.Counts.TheVariants.{Bounded, Free}
use Rattle.terms.specs.declared.limits.Limits.{Limits}
use Rattle.table_steps.specs.declared.state.State.{State}
use Rattle.table_steps.specs.Keeping.{kept_by}
use Rattle.table_steps.specs.World.{AreHeld, AreReady, AreUndisturbed, Answered, RequestInFlight, RequestsInFlight, HaveNodes, Stage, Tally, Work, Working, World}

-- ---- the parts as a world

abbrev pub work_of : RecordedWork → Work
work_of work = record { want = work.want; footprint = footprint_in work; held = work.held }

abbrev pub stage_of : Recording → Stage
stage_of (recorded.Working work) = Working (work_of work)
stage_of (recorded.Answered before opened) = Answered before opened

abbrev pub flight_of : Recorded → RequestInFlight
flight_of f = record { unique = f.unique; stage = stage_of f.stage; pins = f.pins.numbers }

abbrev pub flights_in : RequestMaps → RequestsInFlight
flights_in all = λ id. option_map flight_of (all.at id)

abbrev pub world_of : State → World
world_of s = record {
  at = at_in s.tree;
  postings = s.ledger.made;
  flights = flights_in (requests_of s.flights);
  limits = s.limits;
  files = (files_of s.files).at;
  counter = s.counter;
  last_handle = (files_of s.files).last;
}

-- the running totals
abbrev pub tally_of : State → Tally
tally_of s = record {
  living = s.tree.living;
  counts = s.tree.counts;
  flights = (requests_of s.flights).many;
  promised = record { nodes = (requests_of s.flights).nodes; postings = (requests_of s.flights).postings; files = (requests_of s.flights).files };
  files = (files_of s.files).many;
}

-- ---- the invariants of the parts

-- the end of each request in progress does not allocate
abbrev pub AreProvided : RequestMaps → Type 0
AreProvided all = (id : ℕ) (f : Recorded) (work : RecordedWork) → all.at id ≡ Some f → f.stage ≡ recorded.Working work → IsProvided work f.pins

-- there is room for everything that may still be added, so that only a begin allocates
pub record IsReserved (limits : Limits) (tree : Nodes) (ledger : Postings) (flying : RequestMaps) (filed : Opened) : Type 0 where
  pub nodes : flying.nodes ≤ tree.room
  pub births : flying.nodes ≤ ledger.places
  pub postings : limits.counts ≡ Bounded → tree.counts + flying.postings ≤ ledger.room
  pub whole : limits.counts ≡ Free → limits.postings ≤ length ledger.made.last + ledger.room
  pub files : flying.files ≤ filed.room

-- what there is and what is promised stays within the limits
pub record IsLimited (s : State) : Type 0 where
  pub nodes : s.tree.living + (requests_of s.flights).nodes ≤ s.limits.nodes
  pub postings : s.limits.counts ≡ Bounded → length s.ledger.made.last + s.tree.counts + (requests_of s.flights).postings ≤ s.limits.postings
  pub begun_within : s.limits.counts ≡ Free → s.limits.nodes + (requests_of s.flights).postings ≤ s.limits.postings
  pub entries : 3 * (totals_over s.ledger.made).entries + (requests_of s.flights).postings < 3 * 2 ^ 64
  -- each lookup count is of an entry, each birth came with an entry, and each node was born or carried over in the last
  -- period
  pub counted : s.tree.counts ≤ (totals_over s.ledger.made).entries
  pub births : (totals_over s.ledger.made).born ≤ (totals_over s.ledger.made).entries
  pub begun : s.tree.living ≤ length s.ledger.made.last + 1
  pub flights : (requests_of s.flights).many ≤ s.limits.flights
  pub files : (files_of s.files).many + (requests_of s.flights).files ≤ s.limits.files
  pub handles : (files_of s.files).last + (requests_of s.flights).files < 2 ^ 64
  -- each part knows its limit, and the limits fit their type
  pub node_limit : s.tree.limit ≡ s.limits.nodes
  pub posting_limit : s.ledger.limit ≡ s.limits.postings
  pub short : (s.limits.nodes < 2 ^ 64) × (s.limits.postings < 2 ^ 64) × (s.limits.files < 2 ^ 64)

-- if counts are free, a period that has just begun has room for the next call on each request
abbrev pub AreFew : Limits → RequestMaps → Type 0
AreFew limits all = limits.counts ≡ Free → (id : ℕ) (f : Recorded) → all.at id ≡ Some f → limits.nodes + maps.most_posted f.stage f.pins.numbers ≤ limits.postings

-- the parts are consistent
pub record IsKept (s : State) : Type 0 where
  pub law : IsUpheld (at_in s.tree) s.ledger.made (kept_by s.flights s.files)
  pub flying : AreLawfulRequests (requests_of s.flights)
  pub held : AreHeld (at_in s.tree) (flights_in (requests_of s.flights))
  pub ready : AreReady (at_in s.tree) (flights_in (requests_of s.flights))
  pub provided : AreProvided (requests_of s.flights)
  pub few : AreFew s.limits (requests_of s.flights)
  pub reserved : IsReserved s.limits s.tree s.ledger (requests_of s.flights) (files_of s.files)
  pub limited : IsLimited s
  pub counts : s.counts ≡ s.tree.counts
  pub filed : AreOpenEntries (files_of s.files)
  pub files : HaveNodes (at_in s.tree) (files_of s.files).at

-- the invariant between two calls: in addition, what the ends of requests may remove has no open file
pub record IsWhole (s : State) : Type 0 where
  pub kept : IsKept s
  pub undisturbed : AreUndisturbed (world_of s).at (world_of s).files (world_of s).flights

-- there is room for this promise in addition to the promises of others
pub record IsRoomFor (s : State) (promise : Promise) : Type 0 where
  pub nodes : (requests_of s.flights).nodes + promise.nodes ≤ s.tree.room
  pub births : (requests_of s.flights).nodes + promise.nodes ≤ s.ledger.places
  pub postings : s.limits.counts ≡ Bounded → s.tree.counts + (requests_of s.flights).postings + promise.postings ≤ s.ledger.room
  pub at_once : s.limits.counts ≡ Free → promise.postings ≤ s.ledger.room
  pub nodes_within : s.tree.living + (requests_of s.flights).nodes + promise.nodes ≤ s.limits.nodes
  pub postings_within : s.limits.counts ≡ Bounded → length s.ledger.made.last + s.tree.counts + (requests_of s.flights).postings + promise.postings ≤ s.limits.postings
  pub entries : 3 * (totals_over s.ledger.made).entries + (requests_of s.flights).postings + promise.postings < 3 * 2 ^ 64
  pub files : (requests_of s.flights).files + promise.files ≤ (files_of s.files).room
  pub files_within : (files_of s.files).many + (requests_of s.flights).files + promise.files ≤ s.limits.files
  pub handles : (files_of s.files).last + (requests_of s.flights).files + promise.files < 2 ^ 64
