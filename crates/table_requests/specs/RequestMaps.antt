-- The requests in flight as contracts see them: by their ids.
use Rattle.std.specs.Prelude.{ℕ, ◌+◌, ◌-◌, ◌≡◌, ◌==◌, ◌||◌, ◌↔◌, Bool, true, false, if◌then◌else◌, List, [], ◌∷◌, ◌++◌, Option, Some, None, Contains, drop, length, slice_get}
use Rattle.std.specs.List.{list_any}
use Rattle.paths.specs.Prefixes.{Names}
use Rattle.holds.specs.Conflicts.{Conflict, is_among}
use Rattle.holds.specs.declared.held.Held.{Held}
use Rattle.collections.specs.Sum.{IsSum}
use Rattle.table_requests.specs.declared.data.EndedRequest.{EndedRequest}
use Rattle.table_requests.specs.declared.data.RequestInFlight.{RequestInFlight}
use Rattle.table_requests.specs.declared.data.Stage.{Stage}
use Rattle.table_requests.specs.declared.data.Stage.TheVariants.{Working, Answered}
use Rattle.table_requests.specs.declared.data.Work.{Work}

-- requests by their ids
abbrev pub RequestsInFlight : Type 0
RequestsInFlight = ℕ → Option RequestInFlight

-- the same requests, except that the id leads to f
abbrev pub with_flight : RequestsInFlight → ℕ → RequestInFlight → RequestsInFlight
with_flight at id f = λ k. if id == k then Some f else at k

-- the same requests, except that the id leads to none
abbrev pub without_flight : RequestsInFlight → ℕ → RequestsInFlight
without_flight at id = λ k. if id == k then None else at k

-- whether the request pins the number
abbrev pub pins_number : RequestInFlight → ℕ → Bool
pins_number f n = list_any (λ m. m == n) f.pins.numbers

abbrev pub is_working : Stage → Bool
is_working (Working work) = true
is_working (Answered before opened) = false

-- the nodes, postings and open files that were promised
abbrev pub nodes_promised : Stage → ℕ
nodes_promised (Working work) = work.promise.nodes
nodes_promised (Answered before opened) = 0

abbrev pub postings_promised : Stage → ℕ
postings_promised (Working work) = work.promise.postings
postings_promised (Answered before opened) = 0

abbrev pub files_promised : Stage → ℕ
files_promised (Working work) = work.promise.files
files_promised (Answered before opened) = 0

-- the most postings that the next call on a request makes: those promised to its work, or one give-back for each number
-- that it gave
abbrev pub most_posted : Stage → List ℕ → ℕ
most_posted (Working work) pins = work.promise.postings
most_posted (Answered before opened) pins = length (drop before pins)

abbrev pub most_posted_by : Option RequestInFlight → ℕ
most_posted_by None = 0
most_posted_by (Some f) = most_posted f.stage f.pins.numbers

-- the number at that index of the request's pins
abbrev pub pinned_at : Option RequestInFlight → ℕ → Option ℕ
pinned_at None place = None
pinned_at (Some f) place = slice_get f.pins.numbers place

-- what the request holds, if it is in progress, conflicts with these names
abbrev pub IsInTheWay : Stage → Held → Type 0
IsInTheWay (Working work) wanted = Conflict work.held wanted
IsInTheWay (Answered before opened) wanted = ⊥

-- whether the request is in progress and holds the path shared, or exclusively
abbrev pub has_shared : Stage → Names → Bool
has_shared (Working work) path = is_among work.held.shared path
has_shared (Answered before opened) path = false

abbrev pub has_exclusive : Stage → Names → Bool
has_exclusive (Working work) path = is_among work.held.exclusive path
has_exclusive (Answered before opened) path = false

-- some request in progress holds a name that conflicts with these
pub record HoldsUp (at : RequestsInFlight) (wanted : Held) : Type 0 where
  pub id : ℕ
  pub flight : RequestInFlight
  pub here : at id ≡ Some flight
  pub conflict : IsInTheWay flight.stage wanted

-- the request is in progress, and holds the path exclusively
abbrev pub HoldsExclusively : Stage → Names → Type 0
HoldsExclusively (Working work) path = Contains work.held.exclusive path
HoldsExclusively (Answered before opened) path = ⊥

-- some request in progress holds the path exclusively
pub record HasExclusiveHolder (at : RequestsInFlight) (path : Names) : Type 0 where
  pub id : ℕ
  pub flight : RequestInFlight
  pub here : at id ≡ Some flight
  pub exclusive : HoldsExclusively flight.stage path

-- all requests in flight
pub record RequestMaps : Type 0 where
  -- the requests by their ids
  pub at : RequestsInFlight
  -- whether some request pins the number
  pub pinned : ℕ → Bool
  -- how many there are
  pub many : ℕ
  -- the sum of what all were promised
  pub nodes : ℕ
  pub postings : ℕ
  pub files : ℕ
  -- how many more there is room for
  pub room : ℕ

-- what always holds of the requests
pub record AreLawfulRequests (all : RequestMaps) : Type 0 where
  -- each is found under its own id
  pub numbered : (id : ℕ) (f : RequestInFlight) → all.at id ≡ Some f → f.id ≡ id
  -- a number is pinned exactly if one of them pins it
  pub pins : (n : ℕ) → (all.pinned n ≡ true) ↔ ((id : ℕ) × (f : RequestInFlight) × (all.at id ≡ Some f) × (pins_number f n ≡ true))

-- the totals are sums over all of them
pub record IsTallied (all : RequestMaps) : Type 0 where
  pub many : IsSum all.at (λ f. 1) all.many
  pub nodes : IsSum all.at (λ f. nodes_promised f.stage) all.nodes
  pub postings : IsSum all.at (λ f. postings_promised f.stage) all.postings
  pub files : IsSum all.at (λ f. files_promised f.stage) all.files

-- no request with that id is in progress
abbrev pub HasNoneWorking : RequestsInFlight → ℕ → Type 0
HasNoneWorking at id = (f : RequestInFlight) → at id ≡ Some f → is_working f.stage ≡ false

-- no request with that id was answered
abbrev pub HasNoneAnswered : RequestsInFlight → ℕ → Type 0
HasNoneAnswered at id = (f : RequestInFlight) → at id ≡ Some f → is_working f.stage ≡ true

-- the same request, answered: so far it has given no node and opened no file
abbrev pub answered : RequestInFlight → RequestInFlight
answered f = record f { stage = Answered (length f.pins.numbers) None }

-- the same stage, with the file that was opened
abbrev pub with_opened : Stage → ℕ → Stage
with_opened (Working work) handle = Working work
with_opened (Answered before opened) handle = Answered before (Some handle)

-- the same request, with the file that it opened
abbrev pub opening : RequestInFlight → ℕ → RequestInFlight
opening f handle = record f { stage = with_opened f.stage handle }

-- the same request, with one more pin
abbrev pub pinning : RequestInFlight → ℕ → RequestInFlight
pinning f n = record f { pins = record { numbers = f.pins.numbers ++ n ∷ []; room = f.pins.room - 1 } }

-- no requests
abbrev pub no_requests : RequestsInFlight
no_requests id = None

-- one more is in flight
pub record Adds (old : RequestMaps) (f : RequestInFlight) (new : RequestMaps) : Type 0 where
  pub at : new.at ≡ with_flight old.at f.id f
  pub pinned : new.pinned ≡ (λ n. old.pinned n || pins_number f n)
  pub many : new.many ≡ old.many + 1
  pub nodes : new.nodes ≡ old.nodes + nodes_promised f.stage
  pub postings : new.postings ≡ old.postings + postings_promised f.stage
  pub files : new.files ≡ old.files + files_promised f.stage

-- the work on a request ends: the work is returned, and the request keeps its pins and is promised nothing more
pub record Answers (old : RequestMaps) (id : ℕ) (work : Work) (new : RequestMaps) : Type 0 where
  pub flight : RequestInFlight
  pub here : old.at id ≡ Some flight
  pub working : flight.stage ≡ Working work
  pub at : new.at ≡ with_flight old.at id (answered flight)
  pub pinned : new.pinned ≡ old.pinned
  pub many : new.many ≡ old.many
  pub nodes : new.nodes + work.promise.nodes ≡ old.nodes
  pub postings : new.postings + work.promise.postings ≡ old.postings
  pub files : new.files + work.promise.files ≡ old.files

-- a request pins one more number
pub record PinsMore (old : RequestMaps) (id : ℕ) (f : RequestInFlight) (n : ℕ) (new : RequestMaps) : Type 0 where
  pub at : new.at ≡ with_flight old.at id (pinning f n)
  pub pinned : new.pinned ≡ (λ m. old.pinned m || n == m)
  pub many : new.many ≡ old.many
  pub nodes : new.nodes ≡ old.nodes
  pub postings : new.postings ≡ old.postings
  pub files : new.files ≡ old.files

-- the file that a request opened is noted
pub record Notes (old : RequestMaps) (id : ℕ) (f : RequestInFlight) (handle : ℕ) (new : RequestMaps) : Type 0 where
  pub at : new.at ≡ with_flight old.at id (opening f handle)
  pub pinned : new.pinned ≡ old.pinned
  pub many : new.many ≡ old.many
  pub nodes : new.nodes ≡ old.nodes
  pub postings : new.postings ≡ old.postings
  pub files : new.files ≡ old.files

-- an answered request is removed, with its pins
pub record Goes (old : RequestMaps) (id : ℕ) (ended : EndedRequest) (new : RequestMaps) : Type 0 where
  pub flight : RequestInFlight
  pub here : old.at id ≡ Some flight
  pub answered : flight.stage ≡ Answered ended.before ended.opened
  pub pins : ended.pins ≡ flight.pins
  pub at : new.at ≡ without_flight old.at id
  pub pinned : (n : ℕ) → old.pinned n ≡ (new.pinned n || list_any (λ m. m == n) ended.pins.numbers)
  pub many : new.many + 1 ≡ old.many
  pub nodes : new.nodes ≡ old.nodes
  pub postings : new.postings ≡ old.postings
  pub files : new.files ≡ old.files
