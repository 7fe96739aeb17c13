-- Open files as contracts see them: by their handles.
use Rattle.std.specs.Prelude.{ℕ, ◌+◌, ◌-◌, ◌||◌, ◌<◌, ◌≤◌, ◌≡◌, ◌==◌, ◌↔◌, Bool, true, false, if◌then◌else◌, Option, Some, None}
use Rattle.collections.specs.Sum.{IsSum}
use Rattle.table_files.specs.declared.data.Access.{Access}
use Rattle.table_files.specs.declared.data.Access.TheVariants as access
use Rattle.table_files.specs.declared.data.Need.{Need}
use Rattle.table_files.specs.declared.data.Need.TheVariants as need
use Rattle.table_files.specs.declared.data.OpenFile.{OpenFile}

-- whether a file opened with this access may be used for that
abbrev pub allows : Access → Need → Bool
allows access need.Any = true
allows access.Reading need.Reading = true
allows access.Reading need.Writing = false
allows access.Writing need.Reading = false
allows access.Writing need.Writing = true
allows access.Both need.Reading = true
allows access.Both need.Writing = true

-- open files by their handles
abbrev pub Files : Type 0
Files = ℕ → Option OpenFile

abbrev pub no_files : Files
no_files handle = None

-- the same files, except that the handle leads to this file, or to none
abbrev pub with_file : Files → ℕ → OpenFile → Files
with_file at handle file = λ k. if handle == k then Some file else at k

abbrev pub without_file : Files → ℕ → Files
without_file at handle = λ k. if handle == k then None else at k

-- a file of the node is open
pub record IsOpen (at : Files) (number : ℕ) : Type 0 where
  pub handle : ℕ
  pub file : OpenFile
  pub here : at handle ≡ Some file
  pub node : file.number ≡ number

-- 1 for a file of the node, and 0 for any other
abbrev pub of_node : ℕ → OpenFile → ℕ
of_node number file = if file.number == number then 1 else 0

-- all open files
pub record Opened : Type 0 where
  pub at : Files
  -- whether a file of the node is open
  pub opened : ℕ → Bool
  -- how many are open
  pub many : ℕ
  -- the last handle that was used, or 0
  pub last : ℕ
  -- how many more files there is room for
  pub room : ℕ

-- what always holds of open files
pub record AreOpenEntries (all : Opened) : Type 0 where
  -- the handle of each is one that was used
  pub given : (handle : ℕ) (file : OpenFile) → all.at handle ≡ Some file → (0 < handle) × (handle ≤ all.last)
  pub opens : (number : ℕ) → (all.opened number ≡ true) ↔ IsOpen all.at number
  pub many : IsSum all.at (λ file. 1) all.many

-- a file is opened under the next handle
abbrev pub after_open : Opened → OpenFile → Opened
after_open old file = record old {
  at = with_file old.at (old.last + 1) file;
  opened = λ number. old.opened number || file.number == number;
  many = old.many + 1;
  last = old.last + 1;
  room = old.room - 1;
}

-- the file under the handle is closed, and exactly these nodes still have an open file
abbrev pub after_close : Opened → ℕ → (ℕ → Bool) → Opened
after_close old handle opened = record old {
  at = without_file old.at handle;
  opened = opened;
  many = old.many - 1;
  room = old.room + 1;
}
