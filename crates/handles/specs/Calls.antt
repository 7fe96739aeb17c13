-- Calls on open folders with their answers.
use Rattle.std.specs.Prelude.{ℕ, ◌≡◌, ◌≤◌, Bool, length, Option, Some, None, Result, Ok, Err}
use Rattle.std.specs.Borrow.{Bor}
use Rattle.handles.specs.Listings.{IsLent, OpenFolder}
use Rattle.handles.specs.declared.limits.FolderLimits.{FolderLimits}

pub data FolderCall : Type 0 where
  -- a listing is stored, and gets a handle unless there is no room for it
  Put : (folder : OpenFolder) → (fh : Option ℕ) → FolderCall
  -- the folder under a handle is lent, if it exists
  Lend : (fh : ℕ) → (lent : Option OpenFolder) → FolderCall
  -- a handle is closed, if it existed
  Retire : (fh : ℕ) → (gone : Bool) → FolderCall

-- the handle of a listing that was stored
abbrev pub handle_in : {E : Type 0} → Result ℕ E → Option ℕ
handle_in (Ok fh) = Some fh
handle_in (Err back) = None

-- what is lent has the handle, and is a listing
abbrev pub IsLentFor : ℕ → Option OpenFolder → Type 0
IsLentFor fh None = Unit {0}
IsLentFor fh (Some folder) = IsLent fh folder

-- what is stored is within the limits
abbrev pub IsPutWithin : FolderLimits → OpenFolder → Option ℕ → Type 0
IsPutWithin limits folder None = Unit {0}
IsPutWithin limits folder (Some fh) = (1 ≤ limits.folders) × (length folder.entries ≤ limits.names)

-- which answers are possible when others store and retire meanwhile
abbrev pub Fits : FolderLimits → FolderCall → Type 0
Fits limits (Put folder fh) = IsPutWithin limits folder fh
Fits limits (Lend fh lent) = IsLentFor fh lent
Fits limits (Retire fh gone) = Unit {0}

-- open folders with these limits, which others use too
abbrev pub Shares : Bor FolderLimits → FolderCall → Bor FolderLimits → Type 0
Shares old call new = Fits old.now call × (new ≡ old)
