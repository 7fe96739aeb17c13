-- What the end of a request's work relies on, and what it does.
use Rattle.std.specs.Prelude.{ℕ, ℤ, ◌+◌, ◌*◌, ◌^◌, ◌<◌, ◌≡◌, ◌≤◌, ◌⊎◌, Bool, true, false, if◌then◌else◌, List, [], ◌∷◌, ◌++◌, Option, Some, None, Contains, length}
use Rattle.table_files.specs.declared.data.Access.{Access}
use Rattle.table_files.specs.OpenEntry.{files_of}
use Rattle.table_files.specs.Handles.{AreOpenEntries, after_open}
use Rattle.table_requests.specs.declared.data.RequestInFlight.{RequestInFlight as Recorded}
use Rattle.table_requests.specs.declared.data.Given.{Given}
use Rattle.table_requests.specs.declared.data.Promise.{Promise}
use Rattle.table_requests.specs.declared.data.Stage.TheVariants as recorded
use Rattle.table_requests.specs.declared.data.Handle.{Handle}
use Rattle.table_requests.specs.declared.data.Want.{Want}
use Rattle.table_requests.specs.declared.data.Want.TheVariants as wants
use Rattle.table_requests.specs.declared.data.Work.{Work as RecordedWork}
use Rattle.table_requests.specs.Listed.{requests_of}
use Rattle.table_requests.specs.RequestMaps.{Notes, is_working, most_posted}
use Rattle.holds.specs.declared.held.GivenPath.{GivenPath}
use Rattle.holds.specs.declared.held.Held.{Held}
use Rattle.tree.specs.declared.nodes.Key.{Key}
use Rattle.tree.specs.declared.nodes.Node.{Node}
use Rattle.tree.specs.Places.{Lookup, HasChild, IsAlive, IsCut, IsNamed, IsPathOf, Leads, at_in}
use Rattle.table_footprints.specs.Asked.{Holds, IsMisplaced}
use Rattle.table_footprints.specs.Laws.{AreOwn, IsGrounded, base_of}
use Rattle.table_footprints.specs.NewRequests.{IsProvided}
use Rattle.table_footprints.specs.Footprints.{Change, Footprint, AtName, AtNode, Location, Opening, cuts, exchanges, hides, moves, page_keys, page_names, replaces, stays}
use Rattle.table_steps.specs.declared.acts.NameChange.{NameChange as Changing}
use Rattle.table_steps.specs.declared.acts.NameChange.TheVariants.{Stays, Cuts, CutsNode, Exchanges, Moves, Hides, Replaces}
use Rattle.table_steps.specs.declared.acts.EnteredNames.{EnteredNames}
use Rattle.table_steps.specs.declared.acts.EnteredNames.TheVariants.{Nothing, One, Page}
use Rattle.table_steps.specs.declared.keys.Keys.{Keys}
use Rattle.table_steps.specs.declared.keys.FolderKeys.{FolderKeys}
use Rattle.table_steps.specs.declared.acts.Opens.{Opens}
use Rattle.table_steps.specs.declared.acts.Opens.TheVariants as opens
use Rattle.terms.specs.declared.limits.Counts.TheVariants.{Free}
use Rattle.table_steps.specs.declared.state.State.{State}
use Rattle.table_steps.specs.Entries.{Enters}
use Rattle.table_steps.specs.Keeping.{kept_by}
use Rattle.table_steps.specs.Kept.{IsRoomFor, flight_of, flights_in, work_of}
use Rattle.table_steps.specs.Laws.{IsPlaced}
use Rattle.paths.specs.Prefixes.{Name}
use Rattle.table_steps.specs.Sweeping.{parent_at}
use Rattle.table_steps.specs.Steps.{Alters, EntersAll, HoldsUp, HasExclusiveHolder, Sweeps, numbers_of}
use Rattle.table_steps.specs.World.{RequestInFlight, IsReady, World, with_entry}

-- ---- the acts of a footprint

-- the want of a node alone
abbrev pub IsNodeWant : Want → Type 0
IsNodeWant want = (number : ℕ) × (handle : Option Handle) × (want ≡ wants.Node number handle)

abbrev pub keys_in : EnteredNames → List Key
keys_in Nothing = []
keys_in (One keys) = keys.key ∷ []
keys_in (Page keys) = page_keys keys.folder keys.names

abbrev pub is_page : EnteredNames → Bool
is_page Nothing = false
is_page (One keys) = false
is_page (Page keys) = true

-- the folder of a page
abbrev pub folders_in : EnteredNames → List ℕ
folders_in Nothing = []
folders_in (One keys) = []
folders_in (Page keys) = keys.folder ∷ []

abbrev pub folders_of : Footprint → List ℕ
folders_of d = if d.page then d.given else []

abbrev pub name_at : Key → Location
name_at key = AtName key.parent key.name

abbrev pub change_in : Changing → Change
change_in Stays = stays
change_in (Cuts key) = cuts (name_at key)
change_in (CutsNode number) = cuts (AtNode number)
change_in (Moves key target) = moves (name_at key) (name_at target.key)
change_in (Hides key candidate) = hides (name_at key) (name_at candidate.key)
change_in (Replaces key target candidate moved) = replaces (name_at key) (name_at target.key) (name_at candidate.key) moved
change_in (Exchanges source target) = exchanges (name_at source.key) (name_at target.key)

abbrev pub keyed_name : Keys → Location
keyed_name keys = name_at keys.key

abbrev pub names_in : FolderKeys → List Location
names_in keys = page_names keys.folder keys.names

abbrev pub candidates_in : Option FolderKeys → List Location
candidates_in None = []
candidates_in (Some keys) = names_in keys

-- the file that is opened without an entry, and the one of the name whose entry is given
abbrev pub exclusive_in : Opens → Option Opening
exclusive_in opens.Nothing = None
exclusive_in (opens.Node number access) = Some (record { target = AtNode number; access = access })
exclusive_in (opens.Entry access) = None

abbrev pub with_in : Opens → EnteredNames → Option Opening
with_in opens.Nothing entries = None
with_in (opens.Node number access) entries = None
with_in (opens.Entry access) Nothing = None
with_in (opens.Entry access) (One keys) = Some (record { target = name_at keys.key; access = access })
with_in (opens.Entry access) (Page keys) = None

-- one more file may be opened
pub record HasFileRoom (s : State) : Type 0 where
  pub room : (requests_of s.flights).files + 1 ≤ (files_of s.files).room
  pub within : (files_of s.files).many + (requests_of s.flights).files + 1 ≤ s.limits.files
  pub handles : (files_of s.files).last + (requests_of s.flights).files + 1 < 2 ^ 64

-- the request with that id is recorded, and its work has ended
pub record HasEnded (s : State) (id : ℕ) : Type 0 where
  pub flight : Recorded
  pub here : (requests_of s.flights).at id ≡ Some flight
  pub ended : is_working flight.stage ≡ false

-- the file may be opened, if there is one
abbrev pub MayOpen : State → ℕ → Opens → Type 0
MayOpen s id opens.Nothing = Unit {0}
MayOpen s id (opens.Node number access) = IsAlive (at_in s.tree) number × HasFileRoom s × HasEnded s id
MayOpen s id (opens.Entry access) = Unit {0}

abbrev pub MayOpenGiven : State → ℕ → Opens → Option Given → Type 0
MayOpenGiven s id opens.Nothing entered = Unit {0}
MayOpenGiven s id (opens.Node number access) entered = Unit {0}
MayOpenGiven s id (opens.Entry access) None = Unit {0}
MayOpenGiven s id (opens.Entry access) (Some g) = IsAlive (at_in s.tree) g.number × HasFileRoom s × HasEnded s id

-- one more file of that node is open, and noted for the request with that id
pub record OpensAt (s : State) (id number : ℕ) (access : Access) (new : State) : Type 0 where
  pub node : Node
  pub here : at_in s.tree number ≡ Some node
  pub rest : new ≡ record s { flights = new.flights; files = new.files }
  pub notes : (f : Recorded) → (requests_of s.flights).at id ≡ Some f → Notes (requests_of s.flights) id f ((files_of s.files).last + 1) (requests_of new.flights)
  pub files : files_of new.files ≡ after_open (files_of s.files) (record { number = number; generation = node.generation; access = access })
  pub filed : AreOpenEntries (files_of new.files)

-- a file of the node is opened, if one may be
abbrev pub OpensNode : State → ℕ → Opens → Option ℕ → State → Type 0
OpensNode s id opens.Nothing opened new = (opened ≡ None) × (new ≡ s)
OpensNode s id (opens.Node number access) opened new = (opened ≡ Some ((files_of s.files).last + 1)) × OpensAt s id number access new
OpensNode s id (opens.Entry access) opened new = (opened ≡ None) × (new ≡ s)

-- a file of the node that was given is opened, if one may be
abbrev pub OpensGiven : State → ℕ → Opens → Option Given → Option ℕ → State → Type 0
OpensGiven s id opens.Nothing entered opened new = (opened ≡ None) × (new ≡ s)
OpensGiven s id (opens.Node number access) entered opened new = (opened ≡ None) × (new ≡ s)
OpensGiven s id (opens.Entry access) None opened new = (opened ≡ None) × (new ≡ s)
OpensGiven s id (opens.Entry access) (Some g) opened new = (opened ≡ Some ((files_of s.files).last + 1)) × OpensAt s id g.number access new

-- what was given for the only name, if there is one
abbrev pub IsGivenFor : State → EnteredNames → List (Option Given) → Option Given → Type 0
IsGivenFor new Nothing given entered = entered ≡ None
IsGivenFor new (One keys) given entered = (g : Given) × (entered ≡ Some g) × (given ≡ Some g ∷ []) × IsAlive (at_in new.tree) g.number
IsGivenFor new (Page keys) given entered = entered ≡ None

-- ---- what the end relies on

-- a request whose work has ended still has what it relied on, and has given and opened nothing yet
pub record IsEnding (s : State) (id : ℕ) (work : RecordedWork) : Type 0 where
  pub flight : Recorded
  pub here : (requests_of s.flights).at id ≡ Some flight
  pub answered : flight.stage ≡ recorded.Answered (length flight.pins.numbers) None
  pub provided : IsProvided work flight.pins
  pub ready : IsReady (at_in s.tree) (flight_of flight) (work_of work)
  -- no request still in progress conflicts with it
  pub clear : HoldsUp (flights_in (requests_of s.flights)) work.held → ⊥
  pub room : IsRoomFor s work.promise
  pub few : s.limits.counts ≡ Free → s.limits.nodes + work.promise.postings ≤ s.limits.postings

-- an entry may be given for each name
pub record MayEnter (s : State) (id : ℕ) (keys : List Key) : Type 0 where
  pub flight : Recorded
  pub here : (requests_of s.flights).at id ≡ Some flight
  pub answered : is_working flight.stage ≡ false
  pub pin_room : length keys ≤ flight.pins.room
  pub leads : (key : Key) → Contains keys key → Leads (at_in s.tree) key.parent
  pub promise : Promise
  -- a birth was promised for each of the names, or the name has a node
  pub births : (promise.nodes ≡ length keys) ⊎ ((key : Key) → Contains keys key → (n : ℕ) × IsNamed (at_in s.tree) n key.parent key.name)
  pub postings : promise.postings ≡ 3 * length keys
  pub room : IsRoomFor s promise
  pub few : s.limits.counts ≡ Free → s.limits.nodes + most_posted flight.stage flight.pins.numbers + length keys ≤ s.limits.postings

-- no request in progress holds one of the names exclusively
abbrev pub AreUnowned : State → List Key → Type 0
AreUnowned s keys = (key : Key) → Contains keys key → HasExclusiveHolder (at_in s.tree) (flights_in (requests_of s.flights)) key → ⊥

-- a node and an entry may be given for each name: both were promised for each
pub record MayFill (s : State) (id : ℕ) (keys : List Key) : Type 0 where
  pub flight : Recorded
  pub here : (requests_of s.flights).at id ≡ Some flight
  pub answered : is_working flight.stage ≡ false
  pub pin_room : length keys ≤ flight.pins.room
  pub leads : (key : Key) → Contains keys key → Leads (at_in s.tree) key.parent
  pub room : IsRoomFor s (record { nodes = length keys; postings = 3 * length keys; files = 0 })
  pub few : s.limits.counts ≡ Free → s.limits.nodes + most_posted flight.stage flight.pins.numbers + length keys ≤ s.limits.postings

-- the request named only that node, with its path
pub record LeadsTo (at : Lookup) (given : List GivenPath) (number : ℕ) : Type 0 where
  pub lead : GivenPath
  pub only : given ≡ lead ∷ []
  pub leads : IsPathOf at number lead.path

-- the names that a footprint holds exclusively may change, if no request in progress conflicts
pub record MayAlter (s : State) (change : Change) : Type 0 where
  pub footprint : Footprint
  pub grounded : IsGrounded footprint
  pub placed : IsPlaced footprint.exclusive
  pub own : AreOwn footprint.exclusive change
  pub held : Held
  pub holds : Holds (at_in s.tree) footprint held
  pub clear : HoldsUp (flights_in (requests_of s.flights)) held → ⊥
  pub kept : (n : ℕ) → Contains footprint.given n → kept_by s.flights s.files n ≡ true
  pub not_misplaced : (e : ℤ) → IsMisplaced (at_in s.tree) change e → ⊥

-- ---- what the end does

-- the nodes that the changing names are under
abbrev pub AreUnder : (ℕ → Type 0) → Change → Type 0
AreUnder P stays = Unit {0}
AreUnder P (cuts l) = P (base_of l)
AreUnder P (moves source target) = P (base_of source) × P (base_of target)
AreUnder P (hides l candidate) = P (base_of l) × P (base_of candidate)
AreUnder P (replaces source target candidate moved) = P (base_of source) × P (base_of target) × P (base_of candidate)
AreUnder P (exchanges source target) = P (base_of source) × P (base_of target)

-- what is at that location has the node as its parent
abbrev pub IsOver : Lookup → Location → ℕ → Type 0
IsOver at (AtName parent name) n = n ≡ parent
IsOver at (AtNode number) n = (name : Name) × IsNamed at number n name

abbrev pub IsUnder : Lookup → Change → ℕ → Type 0
IsUnder at stays n = ⊥
IsUnder at (cuts l) n = IsOver at l n
IsUnder at (moves source target) n = (n ≡ base_of source) ⊎ (n ≡ base_of target)
IsUnder at (hides l candidate) n = (n ≡ base_of l) ⊎ (n ≡ base_of candidate)
IsUnder at (replaces source target candidate moved) n = (n ≡ base_of source) ⊎ ((n ≡ base_of target) ⊎ (n ≡ base_of candidate))
IsUnder at (exchanges source target) n = (n ≡ base_of source) ⊎ (n ≡ base_of target)

-- the node that was not given and may lose its last child: the parent of a node that is cut by its number
abbrev pub loses : Lookup → Change → Option ℕ
loses at stays = None
loses at (cuts (AtName parent name)) = None
loses at (cuts (AtNode number)) = parent_at (at number)
loses at (moves source target) = None
loses at (hides l candidate) = None
loses at (replaces source target candidate moved) = None
loses at (exchanges source target) = None

-- the same request, which also pins what it gives
abbrev pub giving : RequestInFlight → List (Option Given) → RequestInFlight
giving f given = record f { pins = f.pins ++ numbers_of given }

-- an entry for the name is given, and the request pins its node
pub record EntersName (old : World) (id : ℕ) (f : RequestInFlight) (key : Key) (g : Given) (new : World) : Type 0 where
  pub enters : Enters old.at old.postings key.parent key.name g new.at new.postings
  pub new_is : new ≡ record old {
    at = new.at;
    postings = new.postings;
    flights = with_entry old.flights id (Some (giving f (Some g ∷ [])));
  }

-- entries are given for those of these names that were found, and the request pins what it gave
pub record GivesAll (old : World) (id : ℕ) (f : RequestInFlight) (keys : List Key) (found : List Bool) (given : List (Option Given)) (new : World) : Type 0 where
  pub enters : EntersAll old.flights old.at old.postings keys found given new.at new.postings
  pub new_is : new ≡ record old {
    at = new.at;
    postings = new.postings;
    flights = with_entry old.flights id (Some (giving f given));
  }

-- names change, and what nothing keeps alive any more is dropped
pub record ChangesNames (old : World) (change : Change) (new : World) : Type 0 where
  pub altered : Lookup
  pub alters : Alters old.at change altered
  pub sweeps : Sweeps altered new
  pub new_is : new ≡ record old { at = new.at }

-- each node with a child still has one, is cut, or is one of these
pub record KeepsChildren (old : Lookup) (but : ℕ → Type 0) (new : Lookup) : Type 0 where
  pub child : (n : ℕ) → HasChild old n → HasChild new n ⊎ (IsCut new n ⊎ but n)
