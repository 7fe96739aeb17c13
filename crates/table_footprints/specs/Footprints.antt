-- What a want reserves in a table: one footprint for each want. What a begin tests, holds, pins and promises, and what
-- an outcome does, depends only on the footprint.
use Rattle.std.specs.Prelude.{ℕ, zero, suc, ◌++◌, ◌==◌, ◌&&◌, Bool, true, false, List, [], ◌∷◌, Option, Some, None, length, map}
use Rattle.table_files.specs.declared.data.Access.{Access}
use Rattle.table_files.specs.declared.data.Need.TheVariants.{Any}
use Rattle.paths.specs.Hidden.{candidate, hidden_name}
use Rattle.paths.specs.Prefixes.{Name, is_name}
use Rattle.tree.specs.declared.nodes.Key.{Key}
use Rattle.table_requests.specs.declared.data.Case.{Case}
use Rattle.table_requests.specs.declared.data.Case.TheVariants as cases
use Rattle.table_requests.specs.declared.data.Handle.{Handle}
use Rattle.table_requests.specs.declared.data.Want.{Want}
use Rattle.table_requests.specs.declared.data.Want.TheVariants as wants

-- ---- footprints

-- the place of a node or a name, whether or not it has a node
pub data Location : Type 0 where
  -- the place of this node
  AtNode : ℕ → Location
  -- the place of this name under this node
  AtName : ℕ → Name → Location

-- how names change
pub data Change : Type 0 where
  stays : Change
  -- what is there is cut
  cuts : Location → Change
  -- what is at the first is moved to the second, and what was at the second is cut
  moves : Location → Location → Change
  -- what is at the first is moved to the second and gets a hidden mark, and what was at the second is cut
  hides : Location → Location → Change
  -- what is at the second is hidden at the third, and then, if so requested, what was at the first is moved to the
  -- second
  replaces : Location → Location → Location → Bool → Change
  -- what is at either is moved to the other
  exchanges : Location → Location → Change

-- a file that may be opened: of the node at that place
pub record Opening : Type 0 where
  pub target : Location
  pub access : Access

-- a handle that must be of an open file of the node
pub record Used : Type 0 where
  pub number : ℕ
  pub handle : Handle

pub record Footprint : Type 0 where
  -- the nodes that the want names: each must have a path, and is pinned
  pub given : List ℕ
  -- the paths of its ticket: what is at one of them is pinned
  pub paths : List Location
  -- each nonempty prefix of these paths is shared
  pub shared : List Location
  -- these paths are held exclusively, and their nonempty proper prefixes are shared
  pub exclusive : List Location
  -- the names for which an entry may be given, and how many nodes may be born for them
  pub entries : List Key
  pub births : ℕ
  -- whether they are the names of a page, some of which may be found
  pub page : Bool
  -- how names change when the work is done
  pub done : Change
  -- the candidates under which an open file may be hidden
  pub candidates : List Location
  -- the file that may be opened
  pub opens : Option Opening
  -- the open file that the want uses
  pub used : Option Used
  -- the handle that is closed when the request begins
  pub closes : Option ℕ

abbrev pub no_footprint : Footprint
no_footprint = record { given = []; paths = []; shared = []; exclusive = []; entries = []; births = 0; page = false; done = stays; candidates = []; opens = None; used = None; closes = None }

-- ---- cases

-- if its name has no node, one may be born
abbrev pub births_in : Case → ℕ
births_in cases.Plain = 0
births_in cases.Absent = 1
births_in cases.Pathless = 0
births_in cases.Last = 0
births_in (cases.Hiding number counter) = 0

-- ---- one footprint for each want

abbrev pub node_footprint : ℕ → Footprint
node_footprint number = record no_footprint { given = number ∷ []; paths = AtNode number ∷ []; shared = AtNode number ∷ [] }

abbrev pub name_footprint : ℕ → Name → Case → Footprint
name_footprint parent name c = record no_footprint {
  given = parent ∷ [];
  paths = AtName parent name ∷ [];
  shared = AtName parent name ∷ [];
  entries = record { parent = parent; name = name } ∷ [];
  births = births_in c;
}

-- a node, whose path is shared, and a name for which an entry may be given
abbrev pub link_footprint : ℕ → ℕ → Name → Case → Footprint
link_footprint number parent name c = record (name_footprint parent name c) {
  given = number ∷ parent ∷ [];
  paths = AtNode number ∷ AtName parent name ∷ [];
  shared = AtNode number ∷ AtName parent name ∷ [];
}

-- that many candidates under which a file of the node may be hidden, from that counter on
unfoldable pub hidden_names : ℕ → ℕ → ℕ → List Name
hidden_names number counter zero = []
hidden_names number counter (suc k) = hidden_names number counter k ++ hidden_name number (candidate counter k) ∷ []

-- ten of them, if a file may have to be hidden
abbrev pub hidden_in : Case → List Name
hidden_in cases.Plain = []
hidden_in cases.Absent = []
hidden_in cases.Pathless = []
hidden_in cases.Last = []
hidden_in (cases.Hiding number counter) = hidden_names number counter 10

-- names in a folder
abbrev pub names_under : ℕ → List Name → List Location
names_under folder names = map (λ name. AtName folder name) names

abbrev pub removal_footprint : ℕ → Name → List Name → Footprint
removal_footprint parent name hidden = record no_footprint {
  given = parent ∷ [];
  paths = AtName parent name ∷ names_under parent hidden;
  exclusive = AtName parent name ∷ names_under parent hidden;
  done = cuts (AtName parent name);
  candidates = names_under parent hidden;
}

abbrev pub move_footprint : ℕ → Name → ℕ → Name → List Name → Footprint
move_footprint parent name new_parent new_name hidden = record no_footprint {
  given = parent ∷ new_parent ∷ [];
  paths = AtName parent name ∷ AtName new_parent new_name ∷ names_under new_parent hidden;
  exclusive = AtName parent name ∷ AtName new_parent new_name ∷ names_under new_parent hidden;
  done = moves (AtName parent name) (AtName new_parent new_name);
  candidates = names_under new_parent hidden;
}

abbrev pub exchange_footprint : ℕ → Name → ℕ → Name → Footprint
exchange_footprint parent name new_parent new_name = record no_footprint {
  given = parent ∷ new_parent ∷ [];
  paths = AtName parent name ∷ AtName new_parent new_name ∷ [];
  exclusive = AtName parent name ∷ AtName new_parent new_name ∷ [];
  done = exchanges (AtName parent name) (AtName new_parent new_name);
}

-- the handle of the node, if one is used
abbrev pub used_on : ℕ → Option Handle → Option Used
used_on number None = None
used_on number (Some handle) = Some (record { number = number; handle = handle })

-- the names of a page: their paths are in the ticket, and they are not held
abbrev pub page_names : ℕ → List Name → List Location
page_names folder names = map (λ name. AtName folder name) names

abbrev pub page_keys : ℕ → List Name → List Key
page_keys folder names = map (λ name. let key : Key = record { parent = folder; name = name } in key) names

abbrev pub page_footprint : ℕ → List Name → Footprint
page_footprint folder names = record (node_footprint folder) {
  paths = AtNode folder ∷ page_names folder names;
  entries = page_keys folder names;
  births = length names;
  page = true;
}

-- the node whose file is closed, if it has a path
abbrev pub closed_on : ℕ → Case → List ℕ
closed_on number cases.Plain = number ∷ []
closed_on number cases.Absent = number ∷ []
closed_on number cases.Pathless = []
closed_on number cases.Last = number ∷ []
closed_on number (cases.Hiding n counter) = []

abbrev pub closed_at : ℕ → Case → List Location
closed_at number cases.Plain = AtNode number ∷ []
closed_at number cases.Absent = AtNode number ∷ []
closed_at number cases.Pathless = []
closed_at number cases.Last = AtNode number ∷ []
closed_at number (cases.Hiding n counter) = []

-- whose path is shared, or held exclusively if the file is removed with its last handle
abbrev pub closed_shared : ℕ → Case → List Location
closed_shared number cases.Plain = AtNode number ∷ []
closed_shared number cases.Absent = AtNode number ∷ []
closed_shared number cases.Pathless = []
closed_shared number cases.Last = []
closed_shared number (cases.Hiding n counter) = []

abbrev pub closed_exclusive : ℕ → Case → List Location
closed_exclusive number cases.Plain = []
closed_exclusive number cases.Absent = []
closed_exclusive number cases.Pathless = []
closed_exclusive number cases.Last = AtNode number ∷ []
closed_exclusive number (cases.Hiding n counter) = []

abbrev pub closed_change : ℕ → Case → Change
closed_change number cases.Plain = stays
closed_change number cases.Absent = stays
closed_change number cases.Pathless = stays
closed_change number cases.Last = cuts (AtNode number)
closed_change number (cases.Hiding n counter) = stays

-- a file that is closed: it reserves what its node does, or the removal of its node, or nothing
abbrev pub closed_footprint : ℕ → Case → Footprint
closed_footprint number c = record no_footprint {
  given = closed_on number c;
  paths = closed_at number c;
  shared = closed_shared number c;
  exclusive = closed_exclusive number c;
  done = closed_change number c;
}

-- a handle that is closed may be open with any access
abbrev pub closing : ℕ → ℕ → Used
closing number fh = record { number = number; handle = record { fh = fh; need = Any } }

abbrev pub footprint_of : Want → Case → Footprint
footprint_of (wants.Node number handle) c = record (node_footprint number) { used = used_on number handle }
footprint_of (wants.Name parent name) c = name_footprint parent name c
footprint_of (wants.Remove parent name may_hide) c = removal_footprint parent name (hidden_in c)
footprint_of (wants.Move parent name new_parent new_name keep) c = move_footprint parent name new_parent new_name (hidden_in c)
footprint_of (wants.Exchange parent name new_parent new_name) c = exchange_footprint parent name new_parent new_name
footprint_of (wants.Page folder names) c = page_footprint folder names
footprint_of (wants.Open number access) c = record (node_footprint number) { opens = Some (record { target = AtNode number; access = access }) }
footprint_of (wants.Create parent name access) c = record (name_footprint parent name c) { opens = Some (record { target = AtName parent name; access = access }) }
footprint_of (wants.Release number fh) c = record (closed_footprint number c) { used = Some (closing number fh); closes = Some fh }
footprint_of (wants.Link number parent name) c = link_footprint number parent name c

-- ---- what a ticket shows of its footprint

abbrev pub are_same : Location → Location → Bool
are_same (AtName p a) (AtName q b) = (p == q) && is_name a b
are_same (AtName p a) (AtNode m) = false
are_same (AtNode n) (AtName q b) = false
are_same (AtNode n) (AtNode m) = n == m

-- whether a name would be moved to itself, or exchanged with itself
abbrev pub is_same : Change → Bool
is_same stays = false
is_same (cuts l) = false
is_same (moves source target) = are_same source target
is_same (hides l candidate) = false
is_same (replaces source target candidate moved) = false
is_same (exchanges source target) = are_same source target
