-- Open folders as a plain map.
use Rattle.std.specs.Prelude.{ℕ, ◌≡◌, List, [], ◌∷◌, ◌++◌, length, get_or, slice_set, is_some, map, Option, Some, None}
use Rattle.std.specs.Borrow.{Bor}
use Rattle.std.specs.Option.{option_map}
use Rattle.handles.specs.Calls.{FolderCall, Put, Lend, Retire, IsLentFor}
use Rattle.handles.specs.Listings.{OpenFolder}

-- what is kept, as contracts see it
abbrev pub shown : List (Option (Bor OpenFolder)) → List (Option OpenFolder)
shown kept = map (option_map (λ folder. folder.now)) kept

-- what is open under a handle
abbrev pub at : List (Option OpenFolder) → ℕ → Option OpenFolder
at folders fh = get_or folders fh None

-- A listing that is stored gets the next handle, what is open under a handle is lent, and nothing is open under one
-- that was closed.
abbrev pub Keeps : List (Option OpenFolder) → FolderCall → List (Option OpenFolder) → Type 0
Keeps old (Put folder None) new = new ≡ old
Keeps old (Put folder (Some fh)) new = (fh ≡ length old) × (new ≡ old ++ Some (record folder { fh = fh }) ∷ [])
Keeps old (Lend fh lent) new = (new ≡ old) × (lent ≡ at old fh) × IsLentFor fh lent
Keeps old (Retire fh gone) new = (gone ≡ is_some (at old fh)) × (new ≡ slice_set old fh None)

-- each contains its own handle
abbrev pub BearTheirs : List (Option OpenFolder) → Type 0
BearTheirs folders = (fh : ℕ) (folder : OpenFolder) → at folders fh ≡ Some folder → folder.fh ≡ fh
