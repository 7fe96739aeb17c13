-- The law of an image. What requests hold is stated about its requests, and the rest is the law of a table.
use Rattle.std.specs.Prelude.{ℕ, ◌+◌, ◌<◌, ◌≡◌, ◌≢◌, ◌==◌, ◌&&◌, ◌||◌, Bool, true, false, List, All, AllPairs, count_by}
use Rattle.std.specs.List.{list_any}
use Rattle.table_files.specs.declared.listed.OpenEntry.{OpenEntry}
use Rattle.table_files.specs.OpenEntry.{opened_in}
use Rattle.paths.specs.Prefixes.{Names}
use Rattle.holds.specs.Conflicts.{Conflict, is_among}
use Rattle.ledger.specs.Periods.{Periods}
use Rattle.tree.specs.Places.{Lookup}
use Rattle.tree.specs.Listed.{node_at, IsDistinct}
use Rattle.table_image.specs.declared.data.Hold.{Hold}
use Rattle.table_image.specs.declared.data.Image.{Image}
use Rattle.table_image.specs.declared.data.Record.{Record}
use Rattle.table_image.specs.declared.data.ImageStage.{ImageStage}
use Rattle.table_image.specs.declared.data.ImageStage.TheVariants.{Working, Answered}
use Rattle.table_law.specs.Law.{IsKnownFile, IsGivenPath, IsLawful}

-- ---- what requests hold

abbrev pub is_working : ImageStage → Bool
is_working Working = true
is_working Answered = false

-- whether the request is in progress and has the path among its shared names
abbrev pub shares : Record → Names → Bool
shares r path = is_working r.stage && is_among r.held.shared path

-- whether the request is in progress and has the path among its exclusive names
abbrev pub holds_exclusively : Record → Names → Bool
holds_exclusively r path = is_working r.stage && is_among r.held.exclusive path

-- how many requests share the path
abbrev pub sharers_of : List Record → Names → ℕ
sharers_of records path = count_by (λ (r : Record). shares r path) records

-- how many requests hold the path exclusively
abbrev pub exclusive_of : List Record → Names → ℕ
exclusive_of records path = count_by (λ (r : Record). holds_exclusively r path) records

-- the two numbers of the path, which are not both 0
pub record IsCountOf (sharers owners : Names → ℕ) (h : Hold) : Type 0 where
  pub sharing : h.shared ≡ sharers h.path
  pub owning : h.exclusive ≡ owners h.path
  pub held : 0 < h.shared + h.exclusive

-- each path comes at most once, with its two numbers; both are 0 for a path that does not come
pub record AreCounts (sharers owners : Names → ℕ) (holds : List Hold) : Type 0 where
  pub once : AllPairs (λ h k. h.path ≢ k.path) holds
  pub each : All (IsCountOf sharers owners) holds
  pub absent : (path : Names) → All (λ h. h.path ≢ path) holds → (sharers path ≡ 0) × (owners path ≡ 0)

-- the holds say how many requests in progress share each path, and how many hold it exclusively
abbrev pub AreHoldsCounted : List Hold → List Record → Type 0
AreHoldsCounted holds records = AreCounts (sharers_of records) (exclusive_of records) holds

-- at least one of the two is not in progress, or what they hold does not conflict
pub record AreClear (r s : Record) : Type 0 where
  pub clear : r.stage ≡ Working → s.stage ≡ Working → Conflict r.held s.held → ⊥

-- no two requests in progress conflict
abbrev pub AreApart : List Record → Type 0
AreApart records = AllPairs AreClear records

-- while the request is in progress, the paths recorded for its nodes lead to them, and it holds their prefixes
pub record IsKnown (at : Lookup) (r : Record) : Type 0 where
  pub leads : r.stage ≡ Working → All (IsGivenPath at r.held) r.held.given

abbrev pub AreKnown : Lookup → List Record → Type 0
AreKnown at records = All (IsKnown at) records

-- ---- the law

-- some request pins the number
abbrev pub is_pinned : List Record → ℕ → Bool
is_pinned records n = list_any (λ r. list_any (λ m. m == n) r.pins) records

-- some request pins the number, or a file of it is open
abbrev pub is_kept : List Record → List OpenEntry → ℕ → Bool
is_kept records files n = is_pinned records n || opened_in files n

-- the ledger of an image
abbrev pub periods_in : Image → Periods
periods_in image = record { births = image.births; totals = image.closed; last = image.postings }

-- the law of an image, which may be any data: so its numbers, ids and handles must also be distinct
pub record IsLawfulImage (image : Image) : Type 0 where
  pub numbers : IsDistinct image.nodes
  pub ids : AllPairs (λ r s. r.id ≢ s.id) image.records
  pub handles : AllPairs (λ f g. f.handle ≢ g.handle) image.files
  pub law : IsLawful (node_at image.nodes) (periods_in image) (is_kept image.records image.files)
  -- each open file is of a living node with its generation, and its handle was given out
  pub files : All (IsKnownFile (node_at image.nodes) image.last_handle) image.files
  -- the holds are those of the requests in progress
  pub counted : AreHoldsCounted image.holds image.records
  -- no two of these requests conflict
  pub apart : AreApart image.records
  -- the paths recorded for them still lead to their nodes
  pub known : AreKnown (node_at image.nodes) image.records
