-- What the code collects for a footprint, location by location.
use Rattle.std.specs.Prelude.{ℕ, ℤ, ◌+◌, ◌*◌, ◌<◌, ◌≤◌, ◌≡◌, ◌↔◌, ◌⊎◌, ◌||◌, ◌&&◌, Bool, true, false, if◌then◌else◌, List, [], ◌∷◌, ◌++◌, Some, None, All, Any, Contains, is_none, length, map}
use Rattle.std.specs.List.{AllZip}
use Rattle.errno.specs.declared.TheConstants.{EINVAL, ENAMETOOLONG, ENOMEM, ENOTEMPTY, ESTALE}
use Rattle.paths.specs.Prefixes.{Name, Names, prefixes, path_bytes}
use Rattle.table_files.specs.Handles.{Files}
use Rattle.holds.specs.declared.held.GivenPath.{GivenPath}
use Rattle.holds.specs.declared.held.Held.{Held}
use Rattle.table_requests.specs.declared.data.Case.{Case}
use Rattle.table_requests.specs.declared.data.Case.TheVariants as cases
use Rattle.table_requests.specs.declared.data.Want.{Want}
use Rattle.tree.specs.declared.nodes.Key.{Key}
use Rattle.tree.specs.declared.nodes.TreeFault.{TreeFault}
use Rattle.tree.specs.declared.nodes.TreeFault.TheVariants as fault
use Rattle.tree.specs.Places.{Lookup, IsPathOf, Leads}
use Rattle.table_footprints.specs.declared.data.NewRequest.{NewRequest}
use Rattle.table_footprints.specs.declared.gatherings.Gathering.{Gathering}
use Rattle.table_footprints.specs.declared.gatherings.Reservation.{Reservation}
use Rattle.table_footprints.specs.declared.found.AtLocation.{AtLocation}
use Rattle.table_footprints.specs.declared.refusal.FootprintRefusal.{FootprintRefusal}
use Rattle.table_footprints.specs.declared.refusal.FootprintRefusal.TheVariants as refusal
use Rattle.table_footprints.specs.declared.footprints.ChangeKind as told_change
use Rattle.table_footprints.specs.declared.footprints.ChangeKind.TheVariants.{Stays, Cuts, Exchanges, Moves}
use Rattle.table_footprints.specs.declared.footprints.HoldMode.{HoldMode}
use Rattle.table_footprints.specs.declared.footprints.HoldMode.TheVariants.{Shared, Exclusive}
use Rattle.table_footprints.specs.declared.footprints.Location as told_location
use Rattle.table_footprints.specs.declared.footprints.Location.TheVariants as locations
use Rattle.table_footprints.specs.declared.footprints.UniformFootprint.{UniformFootprint}
use Rattle.table_footprints.specs.Asked.{ArePaths, HasPath, Holds, IsAboveAt, IsPin, IsPrefixAt, IsRefusedExchange, IsRefusedMove, IsSound, IsThere, promise_of}
use Rattle.table_footprints.specs.Cases.{HasShortPath, IsCase, IsClosingCase, Seen}
use Rattle.table_footprints.specs.Laws.{base_of}
use Rattle.table_footprints.specs.NewRequests.{copied, copied_page}
use Rattle.table_footprints.specs.Footprints.{Change, Footprint, Location, AtName, AtNode, births_in, closed_footprint, cuts, exchanges, hidden_in, moves, no_footprint, footprint_of, stays}

-- ---- refusals

abbrev pub refusal_errno : FootprintRefusal → ℤ
refusal_errno refusal.Stale = ESTALE
refusal_errno refusal.TooLong = ENAMETOOLONG
refusal_errno refusal.IntoItself = EINVAL
refusal_errno refusal.OntoFolder = ENOTEMPTY
refusal_errno refusal.Memory = ENOMEM

abbrev pub refusal_of : TreeFault → FootprintRefusal
refusal_of fault.Unknown = refusal.Stale
refusal_of fault.Cut = refusal.Stale
refusal_of fault.PathLong = refusal.TooLong
refusal_of fault.Full = refusal.Memory
refusal_of fault.Memory = refusal.Memory

-- ---- the footprints of the code as footprints

abbrev pub location_of : told_location.Location → Location
location_of (locations.AtNode number) = AtNode number
location_of (locations.AtName parent name) = AtName parent name.now

abbrev pub told : List told_location.Location → List Location
told ls = map (λ l. location_of l) ls

abbrev pub locations_of : UniformFootprint → List Location
locations_of footprint = told footprint.locations.now

abbrev pub shared_in : HoldMode → List Location → List Location
shared_in Shared ls = ls
shared_in Exclusive ls = []

abbrev pub exclusive_in : HoldMode → List Location → List Location
exclusive_in Shared ls = []
exclusive_in Exclusive ls = ls

abbrev pub key_in : List Location → List Key
key_in [] = []
key_in (AtNode number ∷ ls) = key_in ls
key_in (AtName parent name ∷ ls) = record { parent = parent; name = name } ∷ []

abbrev pub change_in : told_change.ChangeKind → List Location → Change
change_in Stays ls = stays
change_in Cuts [] = stays
change_in Cuts (l ∷ ls) = cuts l
change_in Moves [] = stays
change_in Moves (l ∷ []) = stays
change_in Moves (l ∷ m ∷ ls) = moves l m
change_in Exchanges [] = stays
change_in Exchanges (l ∷ []) = stays
change_in Exchanges (l ∷ m ∷ ls) = exchanges l m

abbrev pub footprint_by : List Location → HoldMode → Bool → told_change.ChangeKind → Case → Footprint
footprint_by ls hold enters change c = record {
  given = map (λ l. base_of l) ls;
  paths = ls;
  shared = shared_in hold ls;
  exclusive = exclusive_in hold ls;
  entries = if enters then key_in ls else [];
  births = if enters then births_in c else 0;
  page = false;
  done = change_in change ls;
  candidates = [];
  opens = None;
  used = None;
  closes = None;
}

abbrev pub footprint_from : UniformFootprint → Case → Footprint
footprint_from footprint c = footprint_by (locations_of footprint) footprint.hold footprint.enters footprint.change c

abbrev pub entries_of : UniformFootprint → ℕ
entries_of footprint = if footprint.enters then 1 else 0

-- ---- conditions on footprints

abbrev pub AreNames : List Location → Type 0
AreNames [] = Unit {0}
AreNames (AtNode number ∷ ls) = ⊥
AreNames (AtName parent name ∷ ls) = AreNames ls

-- a name, which may come after nodes
abbrev pub IsOneName : List Location → Type 0
IsOneName [] = ⊥
IsOneName (AtNode number ∷ ls) = IsOneName ls
IsOneName (AtName parent name ∷ []) = Unit {0}
IsOneName (AtName parent name ∷ l ∷ ls) = ⊥

-- an entry may be given only for a name
abbrev pub IsEntered : Bool → List Location → Type 0
IsEntered true ls = IsOneName ls
IsEntered false ls = Unit {0}

-- a move and an exchange have two locations
abbrev pub AreEnough : told_change.ChangeKind → ℕ → Type 0
AreEnough Stays n = Unit {0}
AreEnough Cuts n = Unit {0}
AreEnough Moves n = 2 ≤ n
AreEnough Exchanges n = 2 ≤ n

-- only names are held exclusively, and an entry is given only for a name
pub record IsFit (footprint : UniformFootprint) : Type 0 where
  pub some : 0 < length footprint.locations.now
  pub few : length footprint.locations.now ≤ 2
  pub names : AreNames (exclusive_in footprint.hold (locations_of footprint))
  pub entry : IsEntered footprint.enters (locations_of footprint)
  pub enough : AreEnough footprint.change (length footprint.locations.now)

-- ---- what is found

-- the node of the location does not lead to the root
abbrev pub IsLost : Lookup → Location → Type 0
IsLost at l = Leads at (base_of l) → ⊥

abbrev pub IsRootedAt : Lookup → Location → Type 0
IsRootedAt at l = Leads at (base_of l)

abbrev pub AreRooted : Lookup → List Location → Type 0
AreRooted at ls = All (IsRootedAt at) ls

abbrev pub IsLongPath : Lookup → Location → Type 0
IsLongPath at l = (path : Names) × HasPath at l path × (4096 < path_bytes path)

-- why a location that leads to the root is refused, and why one of several is
abbrev pub IsBadPath : Lookup → Location → FootprintRefusal → Type 0
IsBadPath at l refusal.Stale = ⊥
IsBadPath at l refusal.TooLong = IsLongPath at l
IsBadPath at l refusal.IntoItself = ⊥
IsBadPath at l refusal.OntoFolder = ⊥
IsBadPath at l refusal.Memory = Unit {0}

abbrev pub IsBadFootprint : Lookup → List Location → FootprintRefusal → Type 0
IsBadFootprint at ls refusal.Stale = ⊥
IsBadFootprint at ls refusal.TooLong = Any (IsLongPath at) ls
IsBadFootprint at ls refusal.IntoItself = ⊥
IsBadFootprint at ls refusal.OntoFolder = ⊥
IsBadFootprint at ls refusal.Memory = Unit {0}

pub record IsFound (at : Lookup) (l : Location) (f : AtLocation) : Type 0 where
  pub above : IsPathOf at (base_of l) f.above
  pub path : HasPath at l f.path
  pub short : path_bytes f.path ≤ 4096
  pub node : (n : ℕ) → (f.node ≡ Some n) ↔ IsThere at l n

abbrev pub CanMove : Names → Names → Type 0
CanMove source target = (e : ℤ) → IsRefusedMove source target e → ⊥

abbrev pub AreExchangeable : Names → Names → Type 0
AreExchangeable source target = (e : ℤ) → IsRefusedExchange source target e → ⊥

-- the condition on the paths of a change, and why they do not satisfy it
abbrev pub MayChange : told_change.ChangeKind → List Names → Type 0
MayChange Stays paths = Unit {0}
MayChange Cuts paths = Unit {0}
MayChange Moves [] = Unit {0}
MayChange Moves (p ∷ []) = Unit {0}
MayChange Moves (p ∷ q ∷ paths) = CanMove p q
MayChange Exchanges [] = Unit {0}
MayChange Exchanges (p ∷ []) = Unit {0}
MayChange Exchanges (p ∷ q ∷ paths) = AreExchangeable p q

abbrev pub IsWrongChange : told_change.ChangeKind → List Names → ℤ → Type 0
IsWrongChange Stays paths e = ⊥
IsWrongChange Cuts paths e = ⊥
IsWrongChange Moves [] e = ⊥
IsWrongChange Moves (p ∷ []) e = ⊥
IsWrongChange Moves (p ∷ q ∷ paths) e = IsRefusedMove p q e
IsWrongChange Exchanges [] e = ⊥
IsWrongChange Exchanges (p ∷ []) e = ⊥
IsWrongChange Exchanges (p ∷ q ∷ paths) e = IsRefusedExchange p q e

-- ---- what was collected

-- the path whose nonempty prefixes are shared, and those that are held exclusively
abbrev pub shared_path : HoldMode → AtLocation → Names
shared_path Shared f = f.path
shared_path Exclusive f = f.above

abbrev pub own_paths : HoldMode → AtLocation → List Names
own_paths Shared f = []
own_paths Exclusive f = f.path ∷ []

-- one more location
pub record Adds (old : Gathering) (number : ℕ) (f : AtLocation) (hold : HoldMode) (new : Gathering) : Type 0 where
  pub given : new.given ≡ old.given ++ record { number = number; path = f.above } ∷ []
  pub shared : new.shared ≡ old.shared ++ prefixes (shared_path hold f)
  pub exclusive : new.exclusive ≡ old.exclusive ++ own_paths hold f
  pub paths : new.paths ≡ old.paths ++ f.path ∷ []
  pub pins : (n : ℕ) → Contains new.pins.numbers n ↔ (Contains old.pins.numbers n ⊎ ((number ≡ n) ⊎ (f.node ≡ Some n)))
  pub room : old.pins.room ≤ new.pins.room + 2
  pub absent : new.absent ≡ (old.absent || is_none f.node)

abbrev pub IsSharedAt : Lookup → HoldMode → Names → Location → Type 0
IsSharedAt at Shared p l = IsPrefixAt at p l
IsSharedAt at Exclusive p l = IsPrefixAt at p (AtNode (base_of l))

abbrev pub IsOwnAt : Lookup → HoldMode → Names → Location → Type 0
IsOwnAt at Shared p l = ⊥
IsOwnAt at Exclusive p l = HasPath at l p

abbrev pub IsPinAt : Lookup → ℕ → Location → Type 0
IsPinAt at n l = (base_of l ≡ n) ⊎ IsThere at l n

abbrev pub IsShortPath : Lookup → Location → Names → Type 0
IsShortPath at l p = HasPath at l p × (path_bytes p ≤ 4096)

-- the location has no node, and some location has none
abbrev pub HasNoNode : Lookup → Location → Type 0
HasNoNode at l = (n : ℕ) → IsThere at l n → ⊥

abbrev pub IsTaken : Lookup → Location → Type 0
IsTaken at l = (n : ℕ) × IsThere at l n

-- everything that was found at these locations
pub record IsGathering (at : Lookup) (hold : HoldMode) (ls : List Location) (x : Gathering) : Type 0 where
  pub numbers : map (λ (lead : GivenPath). lead.number) x.given ≡ map (λ l. base_of l) ls
  pub leads : All (λ (lead : GivenPath). IsPathOf at lead.number lead.path) x.given
  pub shared : (p : Names) → Contains x.shared p ↔ Any (IsSharedAt at hold p) ls
  pub exclusive : (p : Names) → Contains x.exclusive p ↔ Any (IsOwnAt at hold p) ls
  pub paths : AllZip (IsShortPath at) ls x.paths
  pub pins : (n : ℕ) → Contains x.pins.numbers n ↔ Any (IsPinAt at n) ls
  pub next_free : x.absent ≡ true → Any (HasNoNode at) ls
  pub taken : x.absent ≡ false → All (IsTaken at) ls

pub record IsNoGathering (room : ℕ) (x : Gathering) : Type 0 where
  pub given : x.given ≡ []
  pub shared : x.shared ≡ []
  pub exclusive : x.exclusive ≡ []
  pub paths : x.paths ≡ []
  pub pins : x.pins ≡ record { numbers = []; room = room }
  pub absent : x.absent ≡ false

-- ---- reservations

pub record IsReserved (x : Gathering) (case : Case) (candidates : List Name) (births entries : ℕ) (t : Reservation) : Type 0 where
  pub case_is : t.case ≡ case
  pub candidates_are : t.candidates ≡ candidates
  pub held : t.held ≡ record { given = x.given; shared = x.shared; exclusive = x.exclusive }
  pub promise : t.promise ≡ record { nodes = births; postings = 3 * entries; files = 0 }
  pub answer : t.answer ≡ record { items = []; room = entries }
  pub pins : t.pins ≡ x.pins
  pub paths : t.paths ≡ x.paths

-- what the footprint reserves
pub record IsReservation (at : Lookup) (d : Footprint) (t : Reservation) : Type 0 where
  pub sound : IsSound at d
  pub holds : Holds at d t.held
  pub pins : (n : ℕ) → Contains t.pins.numbers n ↔ IsPin at d n
  pub paths : ArePaths at d.paths t.paths
  pub promise : t.promise ≡ promise_of d
  pub pin_room : length d.entries ≤ t.pins.room
  pub answer_room : length d.entries ≤ t.answer.room
  pub unanswered : t.answer.items ≡ []
  pub candidates : t.candidates ≡ hidden_in t.case

-- whether the name for which an entry may be given has a node
abbrev pub IsEntryAt : Lookup → List Location → Case → Type 0
IsEntryAt at ls cases.Plain = All (IsTaken at) ls
IsEntryAt at ls cases.Absent = Any (HasNoNode at) ls
IsEntryAt at ls cases.Pathless = ⊥
IsEntryAt at ls cases.Last = ⊥
IsEntryAt at ls (cases.Hiding number counter) = ⊥

-- a birth is promised for a name without a node
abbrev pub entered_case : Bool → Bool → Case
entered_case none enters = if none && enters then cases.Absent else cases.Plain

abbrev pub IsCaseOf : Lookup → Bool → List Location → Case → Type 0
IsCaseOf at true ls c = IsEntryAt at ls c
IsCaseOf at false ls c = c ≡ cases.Plain

pub record IsAgreed (at : Lookup) (footprint : UniformFootprint) (t : Reservation) : Type 0 where
  pub fits : IsCaseOf at footprint.enters (locations_of footprint) t.case
  pub reservation : IsReservation at (footprint_from footprint t.case) t

-- the same, with a file that may be opened
pub record IsOpening (at : Lookup) (footprint : UniformFootprint) (t : Reservation) : Type 0 where
  pub reservation : Reservation
  pub agreed : IsAgreed at footprint reservation
  pub more : t ≡ record reservation { promise = record reservation.promise { files = 1 } }

pub record IsWanted (seen : Seen) (want : Want) (t : Reservation) : Type 0 where
  pub fits : IsCase seen want t.case
  pub reservation : IsReservation seen.at (footprint_of want t.case) t

-- what closing a file of the node reserves
pub record IsClosing (at : Lookup) (files : Files) (number : ℕ) (t : Reservation) : Type 0 where
  pub fits : IsClosingCase at files number t.case
  pub reservation : IsReservation at (closed_footprint number t.case) t

-- the same if the node has a path that is not too long, depending on whether this is the last handle of a hidden file
pub record IsClosingPath (at : Lookup) (number : ℕ) (last : Bool) (t : Reservation) : Type 0 where
  pub case_is : t.case ≡ (if last then cases.Last else cases.Plain)
  pub short : HasShortPath at number
  pub reservation : IsReservation at (closed_footprint number t.case) t

-- the node has no path, or one that is too long
abbrev pub IsWithoutPath : FootprintRefusal → Type 0
IsWithoutPath r = (r ≡ refusal.Stale) ⊎ (r ≡ refusal.TooLong)

-- if the refusal says that the node has no path, or one that is too long, the node has no other path
abbrev pub TellsPath : Lookup → ℕ → FootprintRefusal → Type 0
TellsPath at number r = IsWithoutPath r → HasShortPath at number → ⊥

-- the path of the node is held exclusively, and each nonempty prefix of its parent's path is shared
pub record IsHeldExclusively (at : Lookup) (number : ℕ) (path : Names) (held : Held) : Type 0 where
  pub given : held.given ≡ record { number = number; path = path } ∷ []
  pub shared : (p : Names) → Contains held.shared p ↔ IsAboveAt at p (AtNode number)
  pub exclusive : held.exclusive ≡ path ∷ []

-- nothing is reserved
pub record IsNothing (t : Reservation) : Type 0 where
  pub case_is : t.case ≡ cases.Pathless
  pub reservation : (at : Lookup) → IsReservation at no_footprint t

-- the record of a request with that want and that reservation
pub record IsRecord (want : Want) (t : Reservation) (p : NewRequest) : Type 0 where
  pub work : p.work ≡ record { want = want; case = t.case; copy = copied want; candidates = hidden_in t.case; copies = copied_page want t.case; held = t.held; promise = t.promise; answer = t.answer }
  pub pins : p.pins ≡ t.pins
  pub paths : p.paths ≡ t.paths
