-- The new paths of the entries in a list when s is renamed to t.
use Rattle.std.specs.Prelude.{ℕ, ◌≡◌, ◌⊎◌, if◌then◌else◌, List, [], ◌∷◌, ◌++◌, Option, Some, None, length, drop}
use Rattle.std.specs.List.{remove}
use Rattle.paths.specs.Prefixes.{Names, is_prefix}
use Rattle.backing.specs.declared.entries.TreeEntry.{TreeEntry}
use Rattle.backing.specs.Entries.{look, IsFoundAt}

-- the new path of what was at s or below it, and none for anything else
abbrev pub moved_path : Names → Names → Names → Option Names
moved_path s t p = if is_prefix s p then Some (t ++ drop (length s) p) else None

-- the new path of what was at s or t or below one of them, when they are exchanged
abbrev pub exchanged_path : Names → Names → Names → Option Names
exchanged_path s t p = if is_prefix s p then Some (t ++ drop (length s) p) else (if is_prefix t p then Some (s ++ drop (length t) p) else None)

abbrev pub with_path : TreeEntry → Option Names → TreeEntry
with_path entry None = entry
with_path entry (Some p) = record entry { path = p }

-- each entry with its new path
abbrev pub with_paths : List TreeEntry → List (Option Names) → List TreeEntry
with_paths [] paths = []
with_paths (entry ∷ entries) [] = entry ∷ entries
with_paths (entry ∷ entries) (path ∷ paths) = with_path entry path ∷ with_paths entries paths

-- No entry has the path, or the one that had it was removed, together with its new path.
abbrev pub Clears : List TreeEntry → List TreeEntry → List (Option Names) → List (Option Names) → Names → Type 0
Clears entries entries' paths paths' p = ((look entries p ≡ None) × (entries' ≡ entries) × (paths' ≡ paths)) ⊎ ((index : ℕ) × IsFoundAt entries p index × (entries' ≡ remove entries index) × (paths' ≡ remove paths index))
