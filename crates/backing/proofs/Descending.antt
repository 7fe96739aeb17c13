-- Going down a path, one name at a time.
use Rattle.std.proofs.Common.{ℕ, ◌≡◌, ◌<◌, ◌+◌, length, take, Option, Some, None, refl, sym, subst, arith, inl, inr}
use Rattle.std.specs.Option.{option_map}
use Rattle.std.proofs.lemmas.Bool.{cases_eq}
use Rattle.paths.specs.Prefixes.{Names}
use Rattle.payload.specs.declared.attributes.Kind.{Kind}
use Rattle.payload.specs.declared.attributes.Kind.TheVariants as kinds
use Rattle.backing.specs.declared.entries.Item.{Item}
use Rattle.errno.specs.declared.TheConstants.{ENOENT, ENOTDIR}
use Rattle.backing.specs.Tree.{Tree, Blocks, IsFolder, Stops, kind_of}
use Rattle.backing.proofs.KindLemmas.{kind_none, kind_folder, kind_blocks}

pub stops_absent : (at : Tree) (p : Names) (k : ℕ) → k < length p → ((j : ℕ) → j < k → IsFolder (at (take j p))) → option_map kind_of (at (take k p)) ≡ None → Stops at p ENOENT
stops_absent at p k within down kind = record {
  depth = k;
  above_path = within;
  down = down;
  why = subst (λ (o : Option Item). Blocks o ENOENT) (sym (kind_none (at (take k p)) kind)) refl;
}

pub stops_other : (at : Tree) (p : Names) (k : ℕ) (kind : Kind) → k < length p → ((j : ℕ) → j < k → IsFolder (at (take j p))) → option_map kind_of (at (take k p)) ≡ Some kind → (kind ≡ kinds.Folder → ⊥) → Stops at p ENOTDIR
stops_other at p k kind within down is other = record {
  depth = k;
  above_path = within;
  down = down;
  why = kind_blocks (at (take k p)) kind is other;
}

pub folder_below : (at : Tree) (p : Names) (k : ℕ) → ((j : ℕ) → j < k → IsFolder (at (take j p))) → option_map kind_of (at (take k p)) ≡ Some kinds.Folder → (j : ℕ) → j < k + 1 → IsFolder (at (take j p))
folder_below at p k down kind j within = elim (cases_eq j k) [
  | inl e ↦ subst (λ (n : ℕ). IsFolder (at (take n p))) (sym e) (subst (λ (o : Option Item). IsFolder o) (sym (kind_folder (at (take k p)) kind)) tt)
  | inr ne ↦ down j (omega arith)
]
