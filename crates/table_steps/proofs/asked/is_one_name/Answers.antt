use Rattle.std.proofs.Common.{ℕ, ◌≡◌, ◌==◌, ◌&&◌, ◌↔◌, Bool, true, false, refl, sym, ap, ◌∙◌, inl, inr}
use Rattle.std.proofs.lemmas.Bool.{cases_Bool, eq-eqb}
use Rattle.paths.specs.Prefixes.{Name, is_name}
use Rattle.paths.proofs.PrefixLemmas.{is_name-true, is_name-yes}
use Rattle.table_steps.proofs.asked.is_one_name.Goals as goal

test_is : (b : Bool) (a c : Name) → (b ≡ true) ↔ (a ≡ c) → b ≡ is_name a c
test_is true a c h = sym (is_name-yes a c (h.0 refl))
test_is false a c h = elim (cases_Bool (is_name a c)) [
  | inl same ↦ h.1 (is_name-true a c same) ∙ sym same
  | inr other ↦ sym other
]

one_name : (parent other_parent : ℕ) (name other : Name) (b : Bool) → parent ≡ other_parent → (b ≡ true) ↔ (name ≡ other) → b ≡ ((parent == other_parent) && is_name name other)
one_name parent other_parent name other b e h = test_is b name other h ∙ ap (λ p. p && is_name name other) (sym (eq-eqb parent other_parent e))

pub returns-then-parent-other_parent : goal.returns-then-parent-other_parent
returns-then-parent-other_parent c = one_name c.args.parent c.args.other_parent c.args.name.now c.args.other.now c.is.result c.if-parent-other_parent.true c.is.ensures
