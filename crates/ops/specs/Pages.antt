-- Pages of an open folder whose names are looked up.
use Rattle.std.specs.Prelude.{ℕ, not, List, [], map}
use Rattle.std.specs.List.{filter}
use Rattle.backing.specs.declared.call.Child.{Child}
use Rattle.table_requests.specs.declared.data.Want.{Want}
use Rattle.table_requests.specs.declared.data.Want.TheVariants as wants
use Rattle.handles.specs.Names.{is_dot}
use Rattle.paths.specs.Prefixes.{Name}

-- entries of a listing, and the index of the first one
pub record Paged : Type 0 where
  pub from : ℕ
  pub entries : List Child

-- the page of a request that has none
abbrev pub no_page : Paged
no_page = record { from = 0; entries = [] }

-- the names that are looked up: all except `.` and `..`
abbrev pub names_on : List Child → List Name
names_on entries = map (λ child. child.name) (filter (λ child. not (is_dot child.name)) entries)

-- the want of a request that returns these entries of a folder
abbrev pub page_want : ℕ → List Child → Want
page_want folder entries = wants.Page folder (names_on entries)
