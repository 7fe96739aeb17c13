-- Pages of a folder, by the number of bytes that they take.
use Rattle.std.specs.Prelude.{ℕ, ◌≡◌, ◌+◌, ◌*◌, ◌/◌, ◌<◌, ◌≤◌, Bool, true, false, List, ◌∷◌, length, take, drop, Result, Ok, Err}
use Rattle.std.specs.List.{sum_by}
use Rattle.backing.specs.declared.call.Child.{Child}
use Rattle.handles.specs.declared.page.Page.{Page}
use Rattle.handles.specs.declared.page.PageFault.{PageFault}
use Rattle.handles.specs.declared.page.PageFault.TheVariants.{Small}

-- what comes before the name of an entry, with or without attributes
abbrev pub head_len : Bool → ℕ
head_len true = 152
head_len false = 24

-- the bytes of an entry: its head, its name, and padding to a multiple of 8
abbrev pub padded : Bool → Child → ℕ
padded plus child = (head_len plus + length child.name + 7) / 8 * 8

abbrev pub bytes_of : Bool → List Child → ℕ
bytes_of plus entries = sum_by (padded plus) entries

-- the longest prefix of these entries that takes at most that many bytes
pub record IsLongestRun (plus : Bool) (size : ℕ) (entries run : List Child) : Type 0 where
  pub prefix : run ≡ take (length run) entries
  pub fits : bytes_of plus run ≤ size
  pub longest : (n : ℕ) → n ≤ length entries → bytes_of plus (take n entries) ≤ size → n ≤ length run

-- there is an entry, and it takes more bytes
pub record IsSmall (plus : Bool) (size : ℕ) (entries : List Child) : Type 0 where
  pub first : Child
  pub more : List Child
  pub there : entries ≡ first ∷ more
  pub small : size < padded plus first

-- the page from an offset on
abbrev pub IsPage : Bool → List Child → ℕ → ℕ → Result Page PageFault → Type 0
IsPage plus entries offset size (Ok page) = (page.from ≡ offset) × IsLongestRun plus size (drop offset entries) page.entries.now × (IsSmall plus size (drop offset entries) → ⊥)
IsPage plus entries offset size (Err Small) = IsSmall plus size (drop offset entries)
