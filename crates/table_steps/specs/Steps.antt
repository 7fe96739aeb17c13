-- The steps of a table. Each determines the whole new world.
use Rattle.std.specs.Prelude.{ℕ, ℤ, is_some, ◌+◌, ◌-◌, ◌%◌, ◌^◌, ◌<◌, ◌≡◌, ◌≢◌, ◌⊎◌, ◌==◌, ◌&&◌, ◌↔◌, not, if◌then◌else◌, Bool, true, false, List, [], ◌∷◌, ◌++◌, Option, Some, None, AllPairs, Contains, length, drop, map, min}
use Rattle.errno.specs.declared.TheConstants.{EAGAIN, EBADF, ENFILE}
use Rattle.std.specs.List.{slice_get}
use Rattle.table_files.specs.declared.data.OpenFile.{OpenFile}
use Rattle.table_files.specs.Handles.{Files, allows}
use Rattle.table_law.specs.Law.{HaveReasons}
use Rattle.table_requests.specs.declared.data.Given.{Given}
use Rattle.table_requests.specs.declared.data.Want.{Want}
use Rattle.holds.specs.declared.held.Held.{Held}
use Rattle.holds.specs.Conflicts.{Conflict}
use Rattle.ledger.specs.declared.births.KeptBirths.{KeptBirths}
use Rattle.ledger.specs.declared.postings.Posting.{Posting}
use Rattle.ledger.specs.declared.postings.Posting.TheVariants as posting
use Rattle.ledger.specs.Periods.{Periods, posted}
use Rattle.ledger.specs.Sums.{births_closed, births_of, number_of, totals_over}
use Rattle.paths.specs.Prefixes.{Names, is_prefix}
use Rattle.tree.specs.declared.nodes.Key.{Key}
use Rattle.tree.specs.declared.nodes.Node.{Node}
use Rattle.tree.specs.Moves.{Changes, IsPathOfName, Where, after_cut, after_exchange, after_move}
use Rattle.tree.specs.Places.{Lookup, with_node}
use Rattle.table_footprints.specs.Asked.{ArePaths, HasPath, Holds, IsPin, IsSound, IsThere, IsUnsound, promise_of}
use Rattle.table_footprints.specs.Cases.{IsFootprint}
use Rattle.table_footprints.specs.Footprints.{AtName, AtNode, Change, Footprint, Location, Opening, Used, cuts, exchanges, hides, is_same, moves, replaces, stays}
use Rattle.terms.specs.declared.limits.Counts.TheVariants.{Free}
use Rattle.table_steps.specs.declared.data.Begin.{Begin}
use Rattle.table_steps.specs.declared.data.Begin.TheVariants.{Go, Busy, Refused}
use Rattle.table_steps.specs.declared.data.Outcome.{Outcome}
use Rattle.table_steps.specs.declared.data.Outcome.TheVariants.{Done, Entries, Entry, Failed, Hidden, HiddenMove}
use Rattle.table_steps.specs.Answers.{Answer, Claim, Settlement, entries_in}
use Rattle.table_steps.specs.Entries.{Enters, TakesAllBack, untaken_of}
use Rattle.table_steps.specs.Swept.{IsSwept}
use Rattle.table_steps.specs.World.{AreKept, Answered, RequestInFlight, RequestsInFlight, HasRoom, IsAtWork, IsTally, Tally, Work, Working, World, seen_in, with_entry}

-- the postings that a step added to the ledger
abbrev pub gained : World → World → List Posting
gained old new = drop (length old.postings.last) new.postings.last

-- the new nodes are these without those that nothing keeps alive any more, and none without a reason is left
pub record Sweeps (mid : Lookup) (new : World) : Type 0 where
  pub kept : ℕ → Bool
  pub keeps : AreKept new.flights new.files kept
  pub swept : IsSwept kept mid new.at
  pub reasons : HaveReasons new.at kept

-- the same files, except the one that is closed
abbrev pub files_without : Option ℕ → Files → Files
files_without None files = files
files_without (Some handle) files = with_entry files handle None

-- ---- forget

-- that much is taken from the node's count
pub record Takes (old : World) (number amount : ℕ) (x : Node) (new : World) : Type 0 where
  pub sweeps : Sweeps (with_node old.at number (record x { count = x.count - amount })) new
  pub new_is : new ≡ record old { at = new.at; postings = posted old.postings (posting.Forget number x.generation amount) }

-- the smaller of n and the node's count is taken and posted, and what nothing keeps alive any more is dropped
pub record Forgets (old : World) (number n amount : ℕ) (new : World) : Type 0 where
  pub unknown : old.at number ≡ None → amount ≡ 0
  pub smaller : (x : Node) → old.at number ≡ Some x → amount ≡ min n x.count
  pub nothing : amount ≡ 0 → new ≡ old
  pub something : (x : Node) → old.at number ≡ Some x → 0 < amount → Takes old number amount x new

-- ---- begin: its tests, in order

-- a request in progress holds a path that conflicts with these
pub record HoldsUp (flights : RequestsInFlight) (wanted : Held) : Type 0 where
  pub id : ℕ
  pub flight : RequestInFlight
  pub work : Work
  pub here : IsAtWork flights id flight work
  pub conflict : Conflict work.held wanted

pub record IsHeldUp (w : World) (d : Footprint) : Type 0 where
  pub held : Held
  pub holds : Holds w.at d held
  pub up : HoldsUp w.flights held

-- the handle is that of an open file of the node, which may be used for this
pub record IsUsable (files : Files) (used : Used) : Type 0 where
  pub file : OpenFile
  pub here : files used.handle.fh ≡ Some file
  pub node : file.number ≡ used.number
  pub access : allows file.access used.handle.need ≡ true

-- the handle that the footprint uses is not open, is open on another node, or lacks the access
pub record IsBadHandle (w : World) (d : Footprint) : Type 0 where
  pub used : Used
  pub asked : d.used ≡ Some used
  pub unusable : IsUsable w.files used → ⊥

-- the test of its handle and the tests of the nodes pass
pub record IsAdmissible (w : World) (d : Footprint) : Type 0 where
  pub usable : IsBadHandle w d → ⊥
  pub sound : IsSound w.at d

-- with this promise the nodes, the postings, the entries, the open files or the handles would exceed their limit
pub record IsFull (w : World) (d : Footprint) : Type 0 where
  pub tally : Tally
  pub tallied : IsTally w tally
  pub none : HasRoom w tally (promise_of d) → ⊥

-- one more request would exceed the limit
pub record IsCrowded (w : World) : Type 0 where
  pub tally : Tally
  pub tallied : IsTally w tally
  pub over : w.limits.flights < tally.flights + 1

-- no test refuses the footprint, and no request conflicts with it
pub record MayBegin (w : World) (d : Footprint) : Type 0 where
  pub usable : IsBadHandle w d → ⊥
  pub sound : IsSound w.at d
  pub clear : IsHeldUp w d → ⊥
  pub room : IsFull w d → ⊥
  pub uncrowded : IsCrowded w → ⊥

-- the refusals in the order of their tests: first that of the handle, then those of the nodes, and out of memory
pub data IsRefusal (w : World) (d : Footprint) (e : ℤ) : Type 0 where
  bad_handle : e ≡ EBADF → IsBadHandle w d → IsRefusal w d e
  unsound : (IsBadHandle w d → ⊥) → IsUnsound w.at d e → IsRefusal w d e
  full : e ≡ ENFILE → IsAdmissible w d → (IsHeldUp w d → ⊥) → IsFull w d → IsRefusal w d e
  crowded : e ≡ EAGAIN → IsAdmissible w d → (IsHeldUp w d → ⊥) → (IsFull w d → ⊥) → IsCrowded w → IsRefusal w d e

-- ---- begin

-- whether an open file may have to be hidden
abbrev pub may_hide : Footprint → Bool
may_hide d = not (length d.candidates == 0)

-- the counter of the next hidden name: ten more names are used if a file may have to be hidden
abbrev pub counter_after : Footprint → ℕ → ℕ
counter_after d counter = if may_hide d then (counter + 10) % 2 ^ 32 else counter

abbrev pub is_cut : Change → Bool
is_cut stays = false
is_cut (cuts l) = true
is_cut (moves source target) = false
is_cut (hides l candidate) = false
is_cut (replaces source target candidate moved) = false
is_cut (exchanges source target) = false

-- whether a file is closed whose node the end of the work removes
abbrev pub is_last : Footprint → Bool
is_last d = is_some d.closes && is_cut d.done

-- the ticket has the paths, whether a name is moved to itself or exchanged with itself, whether a file may have to be
-- hidden, and whether the last handle of a hidden file was closed
pub record IsTicket (at : Lookup) (d : Footprint) (ticket : Claim) : Type 0 where
  pub paths : ArePaths at d.paths ticket.paths
  pub same : ticket.same ≡ is_same d.done
  pub hide : ticket.hide ≡ may_hide d
  pub last : ticket.last ≡ is_last d

-- if a file is closed, what nothing keeps alive any more is dropped; otherwise the nodes do not change
abbrev pub Leaves : Lookup → Option ℕ → World → Type 0
Leaves at None new = new.at ≡ at
Leaves at (Some handle) new = Sweeps at new

-- one more request is in flight, under an unused id, and the handle that it closes is closed
pub record GoesOn (old : World) (unique : ℕ) (want : Want) (d : Footprint) (ticket : Claim) (new : World) : Type 0 where
  pub fresh : old.flights ticket.id ≡ None
  pub ticket_is : IsTicket old.at d ticket
  pub held : Held
  pub holds : Holds old.at d held
  pub pins : List ℕ
  pub pinned : (n : ℕ) → Contains pins n ↔ IsPin old.at d n
  pub leaves : Leaves old.at d.closes new
  pub new_is : new ≡ record old {
    at = new.at;
    flights = with_entry old.flights ticket.id (Some (record { unique = unique; stage = Working (record { want = want; footprint = d; held = held }); pins = pins }));
    files = files_without d.closes old.files;
    counter = counter_after d old.counter;
  }

abbrev pub BeginsAs : World → ℕ → Want → Footprint → Begin → World → Type 0
BeginsAs old unique want d (Go ticket) new = MayBegin old d × GoesOn old unique want d ticket new
BeginsAs old unique want d Busy new = IsAdmissible old d × IsHeldUp old d × (new ≡ old)
BeginsAs old unique want d (Refused e) new = IsRefusal old d e × (new ≡ old)

pub record Begins (old : World) (unique : ℕ) (want : Want) (answer : Begin) (new : World) : Type 0 where
  pub footprint : Footprint
  pub footprint_is : IsFootprint (seen_in old) want footprint
  pub begins : BeginsAs old unique want footprint answer new

-- ---- finish: what an outcome does

-- which entries are given, how names change, and which file is opened
pub record Act : Type 0 where
  pub found : List Bool
  pub change : Change
  pub opens : Option Opening

-- nothing is done
abbrev pub none_found : List Key → List Bool
none_found keys = map (λ key. false) keys

abbrev pub failure : Footprint → Act
failure d = record { found = none_found d.entries; change = stays; opens = None }

-- the name of a request that has one and is not a page
abbrev pub one_found : Bool → List Key → List Bool
one_found page keys = map (λ key. not page) keys

-- the names of a page, if the outcome says of each whether it was found
abbrev pub page_found : Bool → List Key → List Bool → List Bool
page_found page keys found = if page && (length found == length keys) then found else none_found keys

-- the file that is opened without an entry, and the one that is opened with one
abbrev pub opened_alone : Footprint → Option Opening
opened_alone d = if length d.entries == 0 then d.opens else None

abbrev pub opened_with : Footprint → Option Opening
opened_with d = if length d.entries == 0 then None else d.opens

-- what was to be cut at a name is hidden under the candidate, if there is one
abbrev pub hiding_at : Change → Option Location → Change
hiding_at stays candidate = stays
hiding_at (cuts (AtNode number)) candidate = stays
hiding_at (cuts (AtName parent name)) None = stays
hiding_at (cuts (AtName parent name)) (Some candidate) = hides (AtName parent name) candidate
hiding_at (moves source target) candidate = stays
hiding_at (hides l other) candidate = stays
hiding_at (replaces source target other moved) candidate = stays
hiding_at (exchanges source target) candidate = stays

-- what was to be replaced is hidden, and then the other name is moved to its place, if it may be
abbrev pub replacing_at : Change → Option Location → Bool → Change
replacing_at stays candidate moved = stays
replacing_at (cuts l) candidate moved = stays
replacing_at (moves source target) None moved = stays
replacing_at (moves source target) (Some candidate) moved = replaces source target candidate moved
replacing_at (hides l other) candidate moved = stays
replacing_at (replaces source target other again) candidate moved = stays
replacing_at (exchanges source target) candidate moved = stays

-- an outcome that does not fit the footprint acts as a failure
abbrev pub act_of : Footprint → Outcome → Act
act_of d Failed = failure d
act_of d Done = record (failure d) { change = d.done; opens = opened_alone d }
act_of d Entry = record (failure d) { found = one_found d.page d.entries; opens = opened_with d }
act_of d (Entries found) = record (failure d) { found = page_found d.page d.entries found }
act_of d (Hidden candidate) = record (failure d) { change = hiding_at d.done (slice_get d.candidates candidate) }
act_of d (HiddenMove candidate moved) = record (failure d) { change = replacing_at d.done (slice_get d.candidates candidate) moved }

-- ---- finish: entries

-- a request in progress holds the path of the name exclusively
pub record HasExclusiveHolder (at : Lookup) (flights : RequestsInFlight) (key : Key) : Type 0 where
  pub path : Names
  pub leads : IsPathOfName at key.parent key.name path
  pub id : ℕ
  pub flight : RequestInFlight
  pub work : Work
  pub here : IsAtWork flights id flight work
  pub exclusive : Contains work.held.exclusive path

-- each name in turn: if it was found and no request holds it exclusively, an entry is given, with a birth if it has no
-- node
abbrev pub EntersAll : RequestsInFlight → Lookup → Periods → List Key → List Bool → List (Option Given) → Lookup → Periods → Type 0
EntersAll flights at ps (key ∷ keys) (true ∷ found) (Some g ∷ given) at' ps' =
    (HasExclusiveHolder at flights key → ⊥) × ((mid : Lookup) × (qs : Periods) × Enters at ps key.parent key.name g mid qs × EntersAll flights mid qs keys found given at' ps')
EntersAll flights at ps (key ∷ keys) (true ∷ found) (None ∷ given) at' ps' = HasExclusiveHolder at flights key × EntersAll flights at ps keys found given at' ps'
EntersAll flights at ps (key ∷ keys) (false ∷ found) (None ∷ given) at' ps' = EntersAll flights at ps keys found given at' ps'
EntersAll flights at ps [] [] [] at' ps' = (at' ≡ at) × (ps' ≡ ps)
EntersAll flights at ps keys found given at' ps' = ⊥

-- ---- finish: names

-- what is at the location or below is cut
pub record Cuts (old : Lookup) (l : Location) (new : Lookup) : Type 0 where
  pub path : Names
  pub leads : HasPath old l path
  pub changes : Changes (after_cut path) old new

-- what is at the source or below is moved to the target, and what was at the target is cut
pub record Moves (old : Lookup) (source target : Location) (new : Lookup) : Type 0 where
  pub path : Names
  pub leads : HasPath old source path
  pub new_path : Names
  pub new_leads : HasPath old target new_path
  pub changes : Changes (after_move path new_path) old new

-- what was at the location before, if anything, has a hidden mark, and nothing else changed
pub data Marks (before : Lookup) (l : Location) (old new : Lookup) : Type 0 where
  none_there : ((n : ℕ) → IsThere before l n → ⊥) → new ≡ old → Marks before l old new
  one_there : (n : ℕ) (x : Node) → IsThere before l n → old n ≡ Some x → new ≡ with_node old n (record x { hidden = true }) → Marks before l old new

-- what is at the location or below is moved to the candidate, and what was at the location is marked; what was at the
-- candidate is cut
pub record Hides (old : Lookup) (l candidate : Location) (new : Lookup) : Type 0 where
  pub mid : Lookup
  pub moves : Moves old l candidate mid
  pub marks : Marks old l mid new

-- p is moved to q after what was at q was hidden at c. The paths are those before: if c leads to p, what was at p is
-- cut by then, and so only what is at q is cut
abbrev pub after_follow : Names → Names → Names → Where → Where
after_follow c p q w = if is_prefix c p && not (is_prefix p c) then after_cut q w else after_move p q w

abbrev pub Follows : Lookup → Names → Names → Names → Bool → Lookup → Type 0
Follows old candidate path new_path true new = Changes (after_follow candidate path new_path) old new
Follows old candidate path new_path false new = new ≡ old

-- what is at the target is hidden, and then what was at the source is moved to the target, if it may be
pub record Replaces (old : Lookup) (source target candidate : Location) (moved : Bool) (new : Lookup) : Type 0 where
  pub path : Names
  pub leads : HasPath old source path
  pub new_path : Names
  pub new_leads : HasPath old target new_path
  pub hidden : Lookup
  pub hides : Hides old target candidate hidden
  pub follows : Follows hidden hides.moves.new_path path new_path moved new

-- what is at either or below is moved to the other
pub record Exchanges (old : Lookup) (source target : Location) (new : Lookup) : Type 0 where
  pub path : Names
  pub leads : HasPath old source path
  pub new_path : Names
  pub new_leads : HasPath old target new_path
  pub changes : Changes (after_exchange path new_path) old new

abbrev pub Alters : Lookup → Change → Lookup → Type 0
Alters old stays new = new ≡ old
Alters old (cuts l) new = Cuts old l new
Alters old (moves source target) new = Moves old source target new
Alters old (hides l candidate) new = Hides old l candidate new
Alters old (replaces source target candidate moved) new = Replaces old source target candidate moved new
Alters old (exchanges source target) new = Exchanges old source target new

-- ---- finish: files

-- a file of the node at the target is opened under the next handle
pub record OpensFile (at : Lookup) (opening : Opening) (old : World) (opened : Option ℕ) (files : Files) (last : ℕ) : Type 0 where
  pub number : ℕ
  pub there : IsThere at opening.target number
  pub node : Node
  pub here : at number ≡ Some node
  pub last_is : last ≡ old.last_handle + 1
  pub opened_is : opened ≡ Some last
  pub files_are : files ≡ with_entry old.files last (Some (record { number = number; generation = node.generation; access = opening.access }))

abbrev pub Opens : Lookup → Option Opening → World → Option ℕ → Files → ℕ → Type 0
Opens at None old opened files last = (opened ≡ None) × (files ≡ old.files) × (last ≡ old.last_handle)
Opens at (Some opening) old opened files last = OpensFile at opening old opened files last

-- ---- finish

-- the numbers of the nodes that were given
abbrev pub numbers_of : List (Option Given) → List ℕ
numbers_of [] = []
numbers_of (None ∷ given) = numbers_of given
numbers_of (Some g ∷ given) = g.number ∷ numbers_of given

-- the same request, answered: it holds nothing, keeps its pins, pins what it gave, and has the file that it opened
abbrev pub answered : RequestInFlight → List (Option Given) → Option ℕ → RequestInFlight
answered f given opened = record f { stage = Answered (length f.pins) opened; pins = f.pins ++ numbers_of given }

-- the act is carried out: entries, then changes of names, and then the file; what nothing keeps alive any more is
-- dropped
pub record Ends (old : World) (id : ℕ) (f : RequestInFlight) (act : Act) (entries : List Key) (answer : Answer) (new : World) : Type 0 where
  pub answer_id : answer.id ≡ id
  pub not_lost : answer.lost ≡ false
  pub entered : Lookup
  pub enters : EntersAll (with_entry old.flights id (Some (answered f [] None))) old.at old.postings entries act.found answer.given entered new.postings
  pub altered : Lookup
  pub alters : Alters entered act.change altered
  pub opens : Opens altered act.opens old answer.opened new.files new.last_handle
  pub sweeps : Sweeps altered new
  pub new_is : new ≡ record old {
    at = new.at;
    postings = new.postings;
    flights = with_entry old.flights id (Some (answered f answer.given answer.opened));
    files = new.files;
    last_handle = new.last_handle;
  }

pub record Finishes (old : World) (id : ℕ) (outcome : Outcome) (answer : Answer) (new : World) : Type 0 where
  -- a ticket that belongs to no request in progress
  pub lost : ((f : RequestInFlight) (work : Work) → IsAtWork old.flights id f work → ⊥) → (answer ≡ record { id = id; given = []; lost = true; opened = None }) × (new ≡ old)
  pub found : (f : RequestInFlight) (work : Work) → IsAtWork old.flights id f work → Ends old id f (act_of work.footprint outcome) work.footprint.entries answer new

-- ---- settle

-- the handle that is closed, or none if the reply was taken
abbrev pub untaken_file : Bool → Option ℕ → Option ℕ
untaken_file true opened = None
untaken_file false opened = opened

-- the request with that id is in flight, and its work has ended
pub record IsAnswered (flights : RequestsInFlight) (id : ℕ) : Type 0 where
  pub flight : RequestInFlight
  pub here : flights id ≡ Some flight
  pub before : ℕ
  pub opened : Option ℕ
  pub ended : flight.stage ≡ Answered before opened

-- the request is removed with its pins. If its reply was not taken, an entry of each node that it gave is taken back,
-- in order, and the file that it opened is closed, if it still is open. What it gave and opened is what the table
-- recorded, whatever the answer says
pub record EndsFor (old : World) (id : ℕ) (a : IsAnswered old.flights id) (taken : Bool) (new : World) : Type 0 where
  pub mid : Lookup
  pub back : TakesAllBack old.at old.postings (untaken_of taken (drop a.before a.flight.pins)) mid new.postings
  pub sweeps : Sweeps mid new
  pub new_is : new ≡ record old {
    at = new.at;
    postings = new.postings;
    flights = with_entry old.flights id None;
    files = files_without (untaken_file taken a.opened) old.files;
  }

pub record Settles (old : World) (answer : Answer) (taken : Bool) (settled : Settlement) (new : World) : Type 0 where
  pub settled_is : settled ≡ record { id = answer.id; entries = entries_in answer.given; taken = taken }
  pub lost : answer.lost ≡ true → new ≡ old
  pub unknown : (IsAnswered old.flights answer.id → ⊥) → new ≡ old
  pub found : answer.lost ≡ false → (a : IsAnswered old.flights answer.id) → EndsFor old answer.id a taken new

-- ---- the end of a period, and room for a call

-- what a period begins with for one node
pub record IsOpeningOf (at : Lookup) (p : Posting) : Type 0 where
  pub number : ℕ
  pub node : Node
  pub here : at number ≡ Some node
  pub not_root : number ≢ 1
  pub posting_is : p ≡ posting.Opening number node.generation node.count

-- these are all openings, sorted by number
pub record AreOpenings (at : Lookup) (ps : List Posting) : Type 0 where
  pub rising : AllPairs (λ p q. number_of p < number_of q) ps
  pub each : (p : Posting) → Contains ps p ↔ IsOpeningOf at p

-- births and totals are kept, the next period begins with the count of each node except the root, even if it is 0, and
-- nothing else changes: there are that many postings fewer
pub record ClosesPeriod (old : World) (fewer : ℕ) (new : World) : Type 0 where
  pub births : (n : ℕ) → births_closed n new.postings.births ≡ births_of n old.postings
  pub births_once : AllPairs (λ (b c : KeptBirths). b.number ≢ c.number) new.postings.births
  pub totals : new.postings.totals ≡ totals_over old.postings
  pub openings : AreOpenings old.at new.postings.last
  pub fewer_is : fewer + length new.postings.last ≡ length old.postings.last
  pub new_is : new ≡ record old { postings = new.postings }

-- counts are free, and the period has no room for that many more postings
abbrev pub IsShort : World → ℕ → Type 0
IsShort w n = (w.limits.counts ≡ Free) × (w.limits.postings < length w.postings.last + n)

-- the period ends if it has no room for them
abbrev pub MakesRoom : World → ℕ → World → Type 0
MakesRoom old n new = ((IsShort old n → ⊥) × (new ≡ old)) ⊎ (IsShort old n × ((fewer : ℕ) × ClosesPeriod old fewer new))
