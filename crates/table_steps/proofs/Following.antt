-- Where a name is moved to after what was there was hidden.
use Rattle.std.proofs.Common.{ℕ, ◌&&◌, ◌≡◌, Bool, true, false, not, sym, subst, inl, inr}
use Rattle.std.proofs.lemmas.Bool.{cases_Bool, cond-false, cond-true}
use mathlib.Core.Path.{fun_ext}
use Rattle.paths.specs.Prefixes.{Names, is_prefix}
use Rattle.tree.specs.Places.{Lookup, IsPathOf}
use Rattle.tree.specs.Moves.{Changes, after_cut, after_move}
use Rattle.tree.proofs.Transfers.{path_after_cut, path_after_move}
use Rattle.table_steps.specs.Steps.{Follows, after_follow}

-- whether c leads to p, which is longer
abbrev pub leads_on : Names → Names → Bool
leads_on c p = is_prefix c p && not (is_prefix p c)

pub follow_cut : (c p q : Names) → leads_on c p ≡ true → after_follow c p q ≡ after_cut q
follow_cut c p q on = fun_ext (λ w. cond-true (leads_on c p) (after_cut q w) (after_move p q w) on)

pub follow_move : (c p q : Names) → leads_on c p ≡ false → after_follow c p q ≡ after_move p q
follow_move c p q on = fun_ext (λ w. cond-false (leads_on c p) (after_cut q w) (after_move p q w) on)

-- a path that neither of them leads to does not change
pub path_follows : (old new : Lookup) (c p q : Names) (moved : Bool) → Follows old c p q moved new → (n : ℕ) (r : Names) → is_prefix q r ≡ false → is_prefix p r ≡ false → IsPathOf old n r → IsPathOf new n r
path_follows old new c p q false same n r a b h = subst (λ (at : Lookup). IsPathOf at n r) (sym same) h
path_follows old new c p q true changes n r a b h = elim (cases_Bool (leads_on c p)) [
  | inl on ↦ path_after_cut old new q (subst (λ f. Changes f old new) (follow_cut c p q on) changes) n r a h
  | inr off ↦ path_after_move old new p q (subst (λ f. Changes f old new) (follow_move c p q off) changes) n r a b h
]
