-- Viewing what is found as something else of the same weight does not change the sum.
use Rattle.std.proofs.Common.{ℕ, ◌≡◌, Option, Some, None, refl, sym, ap, ◌∙◌}
use Rattle.std.specs.Prelude.{is_some, option_map, sum_by, unwrap_or}
use mathlib.Core.Path.{fun_ext}
use Rattle.collections.specs.Sum.{IsSum}

module _ {X Y : Type 0} where
  found_mapped : (f : X → Y) (o : Option X) → is_some (option_map f o) ≡ is_some o
  found_mapped f None = refl
  found_mapped f (Some x) = refl

  same_weight : (f : X → Y) (u : X → ℕ) (v : Y → ℕ) (o : Option X) → ((x : X) → o ≡ Some x → u x ≡ v (f x)) → unwrap_or (option_map u o) 0 ≡ unwrap_or (option_map v (option_map f o)) 0
  same_weight f u v None same = refl
  same_weight f u v (Some x) same = same x refl

  -- what is found is viewed as something else of the same weight
  pub sum_seen : (at : ℕ → Option X) (f : X → Y) (u : X → ℕ) (v : Y → ℕ) (total : ℕ) → ((k : ℕ) (x : X) → at k ≡ Some x → u x ≡ v (f x)) → IsSum at u total → IsSum (λ k. option_map f (at k)) v total
  sum_seen at f u v total same sum = record {
    keys = sum.keys;
    apart = sum.apart;
    exact = λ k. (λ h. found_mapped f (at k) ∙ (sum.exact k).0 h, λ h. (sum.exact k).1 (sym (found_mapped f (at k)) ∙ h));
    total_is = sum.total_is ∙ ap (λ (g : ℕ → ℕ). sum_by g sum.keys) (fun_ext (λ k. same_weight f u v (at k) (same k)));
  }
