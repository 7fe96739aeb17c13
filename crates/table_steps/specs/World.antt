-- Everything that a table keeps, and its law. It has no number that the rest determines: what the limits apply to is
-- added up from the rest.
use Rattle.std.specs.Prelude.{ℕ, ℤ, ◌+◌, ◌*◌, ◌^◌, ◌<◌, ◌≤◌, ◌≡◌, ◌≢◌, ◌==◌, ◌↔◌, ◌⊎◌, ◌&&◌, Bool, true, not, if◌then◌else◌, List, [], ◌∷◌, Option, Some, None, All, Contains, drop, length}
use Rattle.holds.specs.declared.held.Held.{Held}
use Rattle.holds.specs.Conflicts.{Conflict}
use Rattle.ledger.specs.Periods.{Periods, unclosed}
use Rattle.ledger.specs.Sums.{totals_over}
use Rattle.table_requests.specs.declared.data.Case.{Case}
use Rattle.table_requests.specs.declared.data.Promise.{Promise}
use Rattle.table_requests.specs.declared.data.Want.{Want}
use Rattle.table_requests.specs.declared.data.Want.TheVariants as wants
use Rattle.table_files.specs.declared.data.OpenFile.{OpenFile}
use Rattle.table_files.specs.Handles.{Files, IsOpen, no_files}
use Rattle.tree.specs.declared.nodes.Key.{Key}
use Rattle.tree.specs.declared.nodes.Node.{Node}
use Rattle.tree.specs.Places.{Lookup, IsNamed, no_nodes, root_node, with_node}
use Rattle.table_law.specs.Law.{HasNode, IsGivenPath}
use Rattle.table_steps.specs.Upheld.{IsUpheld}
use Rattle.collections.specs.Sum.{IsSum}
use Rattle.terms.specs.declared.limits.Counts.TheVariants.{Bounded, Free}
use Rattle.terms.specs.declared.limits.Limits.{Limits}
use Rattle.table_footprints.specs.Asked.{Holds, IsMisplaced, IsThere, promise_of}
use Rattle.table_footprints.specs.Cases.{Seen}
use Rattle.table_footprints.specs.Footprints.{AtName, AtNode, Footprint, Location, are_same, cuts, footprint_of}

-- ---- what a table keeps

-- what is still to be done for a request: its footprint is the one that its want had when it began
pub record Work : Type 0 where
  pub want : Want
  pub footprint : Footprint
  pub held : Held

pub data Stage : Type 0 where
  Working : Work → Stage
  -- how many numbers it had pinned when its work ended, and the handle of the file that it opened
  Answered : ℕ → Option ℕ → Stage

pub record RequestInFlight : Type 0 where
  -- the number of the request at the client
  pub unique : ℕ
  pub stage : Stage
  pub pins : List ℕ

-- requests by their ids
abbrev pub RequestsInFlight : Type 0
RequestsInFlight = ℕ → Option RequestInFlight

pub record World : Type 0 where
  -- nodes by their numbers, with their lookup counts and hidden marks
  pub at : Lookup
  -- the ledger: the postings of the last period, oldest first, and what is kept of the closed periods
  pub postings : Periods
  pub flights : RequestsInFlight
  pub limits : Limits
  -- open files by their handles
  pub files : Files
  -- the counter of the next hidden name
  pub counter : ℕ
  -- the last handle that was used, or 0
  pub last_handle : ℕ

-- what the case of a want may depend on
abbrev pub seen_in : World → Seen
seen_in w = record { at = w.at; files = w.files; counter = w.counter }

-- the same look-up, except that the key leads to x, or to none
abbrev pub with_entry : {X : Type 0} → (ℕ → Option X) → ℕ → Option X → ℕ → Option X
with_entry at key x = λ k. if key == k then x else at k

abbrev pub no_flights : RequestsInFlight
no_flights id = None

-- ---- what keeps a node alive, apart from the tree

-- a request pins the number
pub record IsPinned (flights : RequestsInFlight) (n : ℕ) : Type 0 where
  pub id : ℕ
  pub flight : RequestInFlight
  pub here : flights id ≡ Some flight
  pub pin : Contains flight.pins n

-- the numbers that are pinned or have an open file
abbrev pub AreKept : RequestsInFlight → Files → (ℕ → Bool) → Type 0
AreKept flights files kept = (n : ℕ) → (kept n ≡ true) ↔ (IsPinned flights n ⊎ IsOpen files n)

-- ---- sums over the world

abbrev pub no_promise : Promise
no_promise = record { nodes = 0; postings = 0; files = 0 }

-- what a request in progress was promised
abbrev pub promised_to : Stage → Promise
promised_to (Working work) = promise_of work.footprint
promised_to (Answered before opened) = no_promise

pub record Tally : Type 0 where
  -- living nodes including the root, and their lookup counts
  pub living : ℕ
  pub counts : ℕ
  -- requests in flight, and what they were promised
  pub flights : ℕ
  pub promised : Promise
  -- open files
  pub files : ℕ

pub record IsTally (w : World) (t : Tally) : Type 0 where
  pub living : IsSum w.at (λ x. 1) t.living
  pub counts : IsSum w.at (λ x. x.count) t.counts
  pub flights : IsSum w.flights (λ f. 1) t.flights
  pub nodes : IsSum w.flights (λ f. (promised_to f.stage).nodes) t.promised.nodes
  pub postings : IsSum w.flights (λ f. (promised_to f.stage).postings) t.promised.postings
  pub opening : IsSum w.flights (λ f. (promised_to f.stage).files) t.promised.files
  pub files : IsSum w.files (λ f. 1) t.files

-- there is room for this in addition to what there is and what is promised: if counts are bounded, each of them may be
-- forgotten one by one; if they are free, a period that has just begun has room for all nodes and for this. All entries
-- ever made stay within 64 bits, where three postings are promised for each; and a handle is a number of 64 bits that
-- is never used again
pub record HasRoom (w : World) (t : Tally) (p : Promise) : Type 0 where
  pub nodes : t.living + t.promised.nodes + p.nodes ≤ w.limits.nodes
  pub postings : w.limits.counts ≡ Bounded → length w.postings.last + t.counts + t.promised.postings + p.postings ≤ w.limits.postings
  pub begun : w.limits.counts ≡ Free → w.limits.nodes + t.promised.postings + p.postings ≤ w.limits.postings
  pub entries : 3 * (totals_over w.postings).entries + t.promised.postings + p.postings < 3 * 2 ^ 64
  pub files : t.files + t.promised.files + p.files ≤ w.limits.files
  pub handles : w.last_handle + t.promised.files + p.files < 2 ^ 64

-- the most postings that the next call on the request makes: those promised to its work, or one give-back for each
-- entry that it gave
abbrev pub most_of : Option RequestInFlight → ℕ
most_of None = 0
most_of (Some f) = most_in f.stage f.pins
  where
    most_in : Stage → List ℕ → ℕ
    most_in (Working work) pins = (promise_of work.footprint).postings
    most_in (Answered before opened) pins = length (drop before pins)

abbrev pub most_posted : RequestsInFlight → ℕ → ℕ
most_posted flights id = most_of (flights id)

-- what there is and what is promised stays within the limits
pub record IsWithin (w : World) : Type 0 where
  pub tally : Tally
  pub tallied : IsTally w tally
  pub room : HasRoom w tally no_promise
  pub flights : tally.flights ≤ w.limits.flights

-- ---- what a request in progress may rely on

-- the request with that id is in progress
pub record IsAtWork (flights : RequestsInFlight) (id : ℕ) (f : RequestInFlight) (work : Work) : Type 0 where
  pub here : flights id ≡ Some f
  pub working : f.stage ≡ Working work

-- the node with this name is pinned
pub record IsStanding (at : Lookup) (f : RequestInFlight) (key : Key) : Type 0 where
  pub number : ℕ
  pub named : IsNamed at number key.parent key.name
  pub pin : Contains f.pins number

pub record IsReady (at : Lookup) (f : RequestInFlight) (work : Work) : Type 0 where
  -- its footprint is that of its want in some case
  pub case : Case
  pub footprint : work.footprint ≡ footprint_of work.want case
  -- it holds what its footprint says, in the current state of the nodes
  pub holds : Holds at work.footprint work.held
  pub pinned : (n : ℕ) → Contains work.footprint.given n → Contains f.pins n
  -- a birth was promised for each of its names, or the name has a node
  pub names : (work.footprint.births ≡ length work.footprint.entries) ⊎ All (IsStanding at f) work.footprint.entries
  pub placed : (e : ℤ) → IsMisplaced at work.footprint.done e → ⊥
  -- it does not hold the root exclusively
  pub below : Contains work.footprint.exclusive (AtNode 1) → ⊥

-- ---- what hiding relies on

-- the name whose file is hidden if it is open, and not removed or replaced
abbrev pub hidden_at : Want → List Location
hidden_at (wants.Node number handle) = []
hidden_at (wants.Name parent name) = []
hidden_at (wants.Remove parent name may_hide) = if may_hide then AtName parent name ∷ [] else []
hidden_at (wants.Move parent name new_parent new_name keep) = if not keep && not (are_same (AtName parent name) (AtName new_parent new_name)) then AtName new_parent new_name ∷ [] else []
hidden_at (wants.Exchange parent name new_parent new_name) = []
hidden_at (wants.Page folder names) = []
hidden_at (wants.Open number access) = []
hidden_at (wants.Create parent name access) = []
hidden_at (wants.Release number fh) = []
hidden_at (wants.Link number parent name) = []

-- no file of what is there is open
abbrev pub IsClosedAt : Lookup → Files → Location → Type 0
IsClosedAt at files l = (n : ℕ) → IsThere at l n → IsOpen files n → ⊥

-- what the end of the work may remove for good has no open file
pub record IsUndisturbed (at : Lookup) (files : Files) (work : Work) : Type 0 where
  -- what is at the name whose file would be hidden, if there are no candidates for it
  pub removal : work.footprint.candidates ≡ [] → (l : Location) → Contains (hidden_at work.want) l → IsClosedAt at files l
  -- the node that is cut by its number, since the request closed its last handle
  pub release : (number : ℕ) → work.footprint.done ≡ cuts (AtNode number) → IsClosedAt at files (AtNode number)
  -- that node has a hidden mark
  pub marked : (number : ℕ) → work.footprint.done ≡ cuts (AtNode number) → (x : Node) → at number ≡ Some x → x.hidden ≡ true

abbrev pub AreUndisturbed : Lookup → Files → RequestsInFlight → Type 0
AreUndisturbed at files flights = (id : ℕ) (f : RequestInFlight) (work : Work) → IsAtWork flights id f work → IsUndisturbed at files work

-- ---- the law

-- the node of each open file is alive, with the generation that it had when the file was opened
abbrev pub HaveNodes : Lookup → Files → Type 0
HaveNodes at files = (handle : ℕ) (file : OpenFile) → files handle ≡ Some file → HasNode at file

-- in addition, each handle was used, and handles rise from 1
pub record AreFilesKnown (at : Lookup) (files : Files) (last : ℕ) : Type 0 where
  pub nodes : HaveNodes at files
  pub given : (handle : ℕ) (file : OpenFile) → files handle ≡ Some file → (0 < handle) × (handle ≤ last)

pub record AreHeld (at : Lookup) (flights : RequestsInFlight) : Type 0 where
  -- no two requests in progress conflict
  pub apart : (j k : ℕ) (f g : RequestInFlight) (v work : Work) → IsAtWork flights j f v → IsAtWork flights k g work → j ≢ k → Conflict v.held work.held → ⊥
  -- the recorded paths still lead to their nodes, and each nonempty prefix of them is held
  pub known : (id : ℕ) (f : RequestInFlight) (work : Work) → IsAtWork flights id f work → All (IsGivenPath at work.held) work.held.given

-- each request in progress has what it relies on, according to its want
abbrev pub AreReady : Lookup → RequestsInFlight → Type 0
AreReady at flights = (id : ℕ) (f : RequestInFlight) (work : Work) → IsAtWork flights id f work → IsReady at f work

pub record IsLawfulWorld (w : World) : Type 0 where
  pub kept : ℕ → Bool
  pub keeps : AreKept w.flights w.files kept
  pub law : IsUpheld w.at w.postings kept
  pub held : AreHeld w.at w.flights
  pub ready : AreReady w.at w.flights
  pub undisturbed : AreUndisturbed w.at w.files w.flights
  pub within : IsWithin w
  pub files : AreFilesKnown w.at w.files w.last_handle

-- ---- a table with only the root

abbrev pub opened_world : Limits → World
opened_world limits = record {
  at = with_node no_nodes 1 root_node;
  postings = unclosed [];
  flights = no_flights;
  limits = limits;
  files = no_files;
  counter = 0;
  last_handle = 0;
}
