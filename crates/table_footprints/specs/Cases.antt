-- The case of a want, for a given state of the table. Apart from the table of footprints only this depends on the want.
use Rattle.std.specs.Prelude.{ℕ, ◌≡◌, ◌≢◌, ◌≤◌, ◌&&◌, Bool, Some, not, true}
use Rattle.table_files.specs.OpenEntry.{Filing, files_of}
use Rattle.table_files.specs.Handles.{Files, IsOpen, of_node}
use Rattle.table_requests.specs.declared.data.Case.{Case}
use Rattle.table_requests.specs.declared.data.Case.TheVariants as cases
use Rattle.table_requests.specs.declared.data.Want.{Want}
use Rattle.table_requests.specs.declared.data.Want.TheVariants as wants
use Rattle.paths.specs.Prefixes.{Name, Names, path_bytes}
use Rattle.collections.specs.Sum.{IsSum}
use Rattle.tree.specs.declared.nodes.Node.{Node}
use Rattle.tree.specs.Places.{Lookup, Nodes, IsFree, IsNamed, IsPathOf, at_in}
use Rattle.table_footprints.specs.Footprints.{Footprint, AtName, are_same, footprint_of}

-- everything that a case may depend on: the nodes, the open files, and the counter of the next hidden name
pub record Seen : Type 0 where
  pub at : Lookup
  pub files : Files
  pub counter : ℕ

abbrev pub seen_of : Nodes → Filing → ℕ → Seen
seen_of tree files counter = record { at = at_in tree; files = (files_of files).at; counter = counter }

-- a name for which an entry may be given: it has a node, or none
abbrev pub IsEntryCase : Lookup → ℕ → Name → Case → Type 0
IsEntryCase at parent name cases.Plain = (n : ℕ) × IsNamed at n parent name
IsEntryCase at parent name cases.Absent = IsFree at parent name
IsEntryCase at parent name cases.Pathless = ⊥
IsEntryCase at parent name cases.Last = ⊥
IsEntryCase at parent name (cases.Hiding number counter) = ⊥

-- the node has a path, which is not too long
abbrev pub HasShortPath : Lookup → ℕ → Type 0
HasShortPath at n = (path : Names) × IsPathOf at n path × (path_bytes path ≤ 4096)

-- the node, which is not the root, has a hidden mark and exactly one open file
pub record IsLastOpening (at : Lookup) (files : Files) (number : ℕ) : Type 0 where
  pub node : Node
  pub here : at number ≡ Some node
  pub hidden : node.hidden ≡ true
  pub not_root : number ≢ 1
  pub one : IsSum files (of_node number) 1

-- an open file that is closed: its node has such a path, and this is the last handle of a hidden file or not; or it has
-- no such path
abbrev pub IsClosingCase : Lookup → Files → ℕ → Case → Type 0
IsClosingCase at files number cases.Plain = HasShortPath at number × (IsLastOpening at files number → ⊥)
IsClosingCase at files number cases.Absent = ⊥
IsClosingCase at files number cases.Pathless = HasShortPath at number → ⊥
IsClosingCase at files number cases.Last = HasShortPath at number × IsLastOpening at files number
IsClosingCase at files number (cases.Hiding n counter) = ⊥

-- a name that is removed or replaced: the node there may have an open file, which may have to be hidden
abbrev pub IsHidingCase : Seen → ℕ → Name → Bool → Case → Type 0
IsHidingCase seen parent name may_hide cases.Plain = may_hide ≡ true → (n : ℕ) → IsNamed seen.at n parent name → IsOpen seen.files n → ⊥
IsHidingCase seen parent name may_hide cases.Absent = ⊥
IsHidingCase seen parent name may_hide cases.Pathless = ⊥
IsHidingCase seen parent name may_hide cases.Last = ⊥
IsHidingCase seen parent name may_hide (cases.Hiding number counter) = (may_hide ≡ true) × (counter ≡ seen.counter) × IsNamed seen.at number parent name × IsOpen seen.files number

abbrev pub IsCase : Seen → Want → Case → Type 0
IsCase seen (wants.Node number handle) c = c ≡ cases.Plain
IsCase seen (wants.Name parent name) c = IsEntryCase seen.at parent name c
IsCase seen (wants.Remove parent name may_hide) c = IsHidingCase seen parent name may_hide c
IsCase seen (wants.Move parent name new_parent new_name keep) c = IsHidingCase seen new_parent new_name (not keep && not (are_same (AtName parent name) (AtName new_parent new_name))) c
IsCase seen (wants.Exchange parent name new_parent new_name) c = c ≡ cases.Plain
IsCase seen (wants.Page folder names) c = c ≡ cases.Plain
IsCase seen (wants.Open number access) c = c ≡ cases.Plain
IsCase seen (wants.Create parent name access) c = IsEntryCase seen.at parent name c
IsCase seen (wants.Release number fh) c = IsClosingCase seen.at seen.files number c
IsCase seen (wants.Link number parent name) c = IsEntryCase seen.at parent name c

-- what the want reserves in the current state of the table
pub record IsFootprint (seen : Seen) (want : Want) (d : Footprint) : Type 0 where
  pub case : Case
  pub fits : IsCase seen want case
  pub footprint : d ≡ footprint_of want case
