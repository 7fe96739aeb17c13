use Rattle.std.proofs.Common.{ℕ, List, ◌≡◌, ◌<◌, ◌++◌, ◌∷◌, [], get_or}
use Rattle.backing.specs.declared.entries.TreeEntry.{TreeEntry}
use Rattle.backing.proofs.lookups.has_names.Given as goal

abbrev pub invariant-loop-entry : goal.invariant-loop-entry
invariant-loop-entry l = (k : ℕ) (d : TreeEntry) (name : List ℕ) → k < l.entry-index → (get_or l.entries k d).path ≡ l.folder ++ name ∷ [] → ⊥
