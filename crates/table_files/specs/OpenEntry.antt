-- Open files in a list, in the order in which they were opened.
use Rattle.std.specs.Prelude.{ℕ, ◌+◌, ◌*◌, ◌<◌, ◌≤◌, ◌≡◌, ◌==◌, Bool, All, AllPairs, List, Vec, count_by, find, length, option_map, vec_len, vec_capacity}
use Rattle.std.specs.List.{list_any}
use Rattle.std.specs.declared.alloc.Global.{Global}
use Rattle.collections.specs.Living.{places}
use Rattle.table_files.specs.Counts.{AddUpTo, openings_in}
use Rattle.table_files.specs.declared.counts.OpenCounts.{OpenCounts}
use Rattle.table_files.specs.declared.listed.OpenEntry.{OpenEntry}
use Rattle.table_files.specs.Handles.{Files, Opened}

-- the files, the last handle, and how many more can be opened without allocating
pub record Filing : Type 0 where
  pub files : List OpenEntry
  pub last : ℕ
  pub room : ℕ

abbrev pub filing : Vec OpenEntry Global → ℕ → ℕ → Filing
filing files last room = record { files = files.items; last = last; room = room }

-- the files by their handles
abbrev pub file_in : List OpenEntry → Files
file_in files handle = option_map (λ (f : OpenEntry). f.file) (find (λ (f : OpenEntry). f.handle == handle) files)

-- whether the list has a file of the node
abbrev pub opened_in : List OpenEntry → ℕ → Bool
opened_in files number = list_any (λ (f : OpenEntry). f.file.number == number) files

-- the list as open files by their handles
unfoldable pub files_of : Filing → Opened
files_of all = record {
  at = file_in all.files;
  opened = opened_in all.files;
  many = length all.files;
  last = all.last;
  room = all.room;
}

-- the handles rise, from 1 to the last
pub record IsNumbered (files : List OpenEntry) (last : ℕ) : Type 0 where
  pub rising : AllPairs (λ (f g : OpenEntry). f.handle < g.handle) files
  pub given : All (λ (f : OpenEntry). (0 < f.handle) × (f.handle ≤ last)) files

-- how many files of the node the list has
abbrev pub count_in : List OpenEntry → ℕ → ℕ
count_in files number = count_by (λ (f : OpenEntry). f.file.number == number) files

-- the invariant: the files are counted, and the room is there
pub record IsFiled (files : Vec OpenEntry Global) (counts : OpenCounts) (last room : ℕ) : Type 0 where
  pub numbered : IsNumbered files.items last
  pub counted : (number : ℕ) → openings_in counts.by_number number ≡ count_in files.items number
  pub total : AddUpTo counts.by_number counts.nodes (vec_len files)
  pub fits : vec_len files + room ≤ vec_capacity files
  pub places : 2 * (vec_len files + room) ≤ places counts.by_number
