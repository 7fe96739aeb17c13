-- What a request is recorded with.
use Rattle.std.specs.Prelude.{ℕ, ℤ, ◌≡◌, ◌≤◌, ◌↔◌, List, [], ◌∷◌, Option, Some, None, Contains, length}
use Rattle.paths.specs.Prefixes.{Name}
use Rattle.table_requests.specs.declared.data.Want.{Want}
use Rattle.table_requests.specs.declared.data.Want.TheVariants as wants
use Rattle.table_requests.specs.declared.data.Work.{Work}
use Rattle.table_requests.specs.Roomy.{Pinned}
use Rattle.table_footprints.specs.declared.data.NewRequest.{NewRequest}
use Rattle.table_footprints.specs.Asked.{ArePaths, Holds, IsPin, IsSound, IsUnsound, promise_of}
use Rattle.table_footprints.specs.Cases.{IsCase, IsFootprint, Seen}
use Rattle.table_requests.specs.declared.data.Case.{Case}
use Rattle.table_footprints.specs.Footprints.{hidden_in, Footprint, footprint_of}

-- the footprint of a request in progress
abbrev pub footprint_in : Work → Footprint
footprint_in work = footprint_of work.want work.case

-- the name that the want may give to a node, as the tree needs a key and a copy of it: for an exchange the second name
abbrev pub copied : Want → Option Name
copied (wants.Node number handle) = None
copied (wants.Name parent name) = Some name
copied (wants.Remove parent name may_hide) = None
copied (wants.Move parent name new_parent new_name keep) = Some new_name
copied (wants.Exchange parent name new_parent new_name) = Some new_name
copied (wants.Page folder names) = None
copied (wants.Open number access) = None
copied (wants.Create parent name access) = Some name
copied (wants.Release number fh) = None
copied (wants.Link number parent name) = Some name

-- the same for the names of a page, for the candidates under which a file may be hidden, and for the first name of an
-- exchange
abbrev pub copied_page : Want → Case → List Name
copied_page (wants.Node number handle) c = []
copied_page (wants.Name parent name) c = []
copied_page (wants.Remove parent name may_hide) c = hidden_in c
copied_page (wants.Move parent name new_parent new_name keep) c = hidden_in c
copied_page (wants.Exchange parent name new_parent new_name) c = name ∷ []
copied_page (wants.Page folder names) c = names
copied_page (wants.Open number access) c = []
copied_page (wants.Create parent name access) c = []
copied_page (wants.Release number fh) c = []
copied_page (wants.Link number parent name) c = []

-- its end does not allocate: there is room for what it may pin and answer
pub record IsProvided (work : Work) (pins : Pinned) : Type 0 where
  pub promise : work.promise ≡ promise_of (footprint_in work)
  pub copy : work.copy ≡ copied work.want
  pub candidates : work.candidates ≡ hidden_in work.case
  pub copies : work.copies ≡ copied_page work.want work.case
  pub pin_room : length (footprint_in work).entries ≤ pins.room
  pub answer_room : length (footprint_in work).entries ≤ work.answer.room
  pub unanswered : work.answer.items ≡ []

-- the tests of the nodes allow the want: what the request holds, pins and is promised, and the paths of its ticket
pub record IsNewRequest (seen : Seen) (want : Want) (p : NewRequest) : Type 0 where
  pub want_is : p.work.want ≡ want
  pub fits : IsCase seen want p.work.case
  pub sound : IsSound seen.at (footprint_in p.work)
  pub holds : Holds seen.at (footprint_in p.work) p.work.held
  pub pins : (n : ℕ) → Contains p.pins.numbers n ↔ IsPin seen.at (footprint_in p.work) n
  pub paths : ArePaths seen.at (footprint_in p.work).paths p.paths
  pub provided : IsProvided p.work p.pins

-- the tests refuse it, or memory was refused
pub record IsRefusedRequest (seen : Seen) (want : Want) (e : ℤ) : Type 0 where
  pub footprint : Footprint
  pub footprint_is : IsFootprint seen want footprint
  pub unsound : IsUnsound seen.at footprint e
