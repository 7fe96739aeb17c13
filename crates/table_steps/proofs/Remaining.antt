-- Which nodes still exist after an entry, a birth or a sweep.
use Rattle.std.proofs.Common.{ℕ, ◌≡◌, Bool, true, Some, None, sym, ap, ◌∙◌, subst, inl, inr}
use Rattle.std.proofs.lemmas.Bool.{cases_eq, true≢false}
use Rattle.std.proofs.lemmas.Option.{none-some, same_Some}
use Rattle.holds.specs.declared.held.Held.{Held}
use Rattle.holds.specs.Conflicts.{IsHeld, IsSomePrefix}
use Rattle.paths.specs.Prefixes.{Name, Names}
use Rattle.tree.specs.declared.nodes.Node.{Node}
use Rattle.tree.specs.Places.{Lookup, IsNamed, with_node}
use Rattle.tree.proofs.LookupLemmas.{cases_option, with_other, with_same}
use Rattle.table_steps.specs.Swept.{IsSwept}

-- each prefix of the path is held
abbrev pub HoldsPrefixes : Held → Names → Type 0
HoldsPrefixes held q = (prefix : Names) → IsSomePrefix prefix q → IsHeld held prefix

pub named_written : (at : Lookup) (n : ℕ) (x y : Node) → at n ≡ Some x → y.place ≡ x.place → (m p : ℕ) (name : Name) → IsNamed at m p name → IsNamed (with_node at n y) m p name
named_written at n x y stood place m p name h = elim (cases_eq n m) [
  | inl e ↦
      let same : h.0 ≡ x = same_Some h.0 x (sym h.1 ∙ (ap at (sym e) ∙ stood)) in
      (y, subst (λ k. with_node at n y k ≡ Some y) e (with_same at n y), place ∙ (ap (λ (w : Node). w.place) (sym same) ∙ h.2))
  | inr ne ↦ (h.0, with_other at n y m ne ∙ h.1, h.2)
]

pub named_born : (at : Lookup) (n : ℕ) (y : Node) → at n ≡ None → (m p : ℕ) (name : Name) → IsNamed at m p name → IsNamed (with_node at n y) m p name
named_born at n y fresh m p name h = (h.0, with_other at n y m (λ e. none-some h.0 (sym fresh ∙ (ap at e ∙ h.1))) ∙ h.1, h.2)

pub stays_pinned : (pinned : ℕ → Bool) (old new : Lookup) (n : ℕ) (x : Node) → IsSwept pinned old new → old n ≡ Some x → pinned n ≡ true → new n ≡ Some x
stays_pinned pinned old new n x swept stood pin = elim (cases_option (new n)) [
  | inl none ↦ absurd (true≢false (sym pin ∙ (swept.gone n x stood none).unkept))
  | inr (y, stands) ↦ stands ∙ ap (λ (w : Node). Some w) (same_Some y x (sym (swept.kept n y stands) ∙ stood))
]
