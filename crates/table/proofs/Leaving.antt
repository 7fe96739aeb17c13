-- The nodes with a hidden mark, sorted by number.
use Rattle.std.proofs.Common.{ℕ, ◌+◌, ◌<◌, ◌≤◌, List, [], ◌∷◌, ◌++◌, Contains, sym, subst, inl, inr, arith}
use Rattle.std.proofs.lemmas.Bool.{cases_eq, cases_lt}
use Rattle.std.proofs.lemmas.List.Elements.{All-contains, All-push, Contains-push, Contains-push_cases, Contains-append_left}
use Rattle.std.proofs.lemmas.List.Quantifiers.{all_pairs_push}
use Rattle.table_footprints.proofs.Members.{zip_push}
use Rattle.paths.specs.Prefixes.{Names}
use Rattle.tree.specs.Places.{Lookup, IsAlive, IsPathOf}
use Rattle.table.specs.Leftovers.{AreLeftBelow, AreLeftovers, IsMarked}

pub left_none : (at : Lookup) → AreLeftBelow at 0 []
left_none at = record { numbers = []; below = λ k d less. absurd (omega (arith, less)); rising = λ i j d less within. absurd (omega (arith, within)); marked = λ n less. absurd (omega (arith, less)); leads = tt }

-- numbers without a mark are skipped
pub left_skip : (at : Lookup) (bound more : ℕ) (paths : List Names) → bound ≤ more → ((n : ℕ) → bound ≤ n → n < more → IsMarked at n → ⊥) → AreLeftBelow at bound paths → AreLeftBelow at more paths
left_skip at bound more paths le none left = record {
  numbers = left.numbers;
  below = λ k d less. omega (arith, left.below k d less, le);
  rising = left.rising;
  marked = λ n less. elim (cases_lt n bound) [
    | inl in_it ↦ left.marked n in_it
    | inr out ↦ (λ there. let small = All-contains (λ (m : ℕ). m < bound) left.numbers n left.below there in absurd (omega (arith, small, out)), λ mark. absurd (none n (omega (arith, out)) less mark))
  ];
  leads = left.leads;
}

-- a number with a mark is listed
pub left_push : (at : Lookup) (n : ℕ) (paths : List Names) (path : Names) → IsMarked at n → IsPathOf at n path → AreLeftBelow at n paths → AreLeftBelow at (n + 1) (paths ++ path ∷ [])
left_push at n paths path mark leads left = record {
  numbers = left.numbers ++ n ∷ [];
  below = All-push (λ (m : ℕ). m < n + 1) left.numbers n (λ k d less. omega (arith, left.below k d less)) (omega arith);
  rising = all_pairs_push (λ (j k : ℕ). j < k) left.numbers n left.rising left.below;
  marked = λ m less. elim (cases_eq m n) [
    | inl e ↦ (λ there. subst (IsMarked at) (sym e) mark, λ it. subst (λ k. Contains (left.numbers ++ n ∷ []) k) (sym e) (Contains-push left.numbers n))
    | inr ne ↦ (
      λ there. elim (Contains-push_cases left.numbers n m there) [
        | inl before ↦ (left.marked m (omega (arith, less, ne))).0 before
        | inr last ↦ absurd (ne (sym last))
      ],
      λ it. Contains-append_left left.numbers (n ∷ []) m ((left.marked m (omega (arith, less, ne))).1 it),
    )
  ];
  leads = zip_push (IsPathOf at) left.numbers paths n path left.leads leads;
}

-- no node has a number above the last one
pub left_all : (at : Lookup) (last : ℕ) (paths : List Names) → ((n : ℕ) → IsAlive at n → n ≤ last) → AreLeftBelow at (last + 1) paths → AreLeftovers at paths
left_all at last paths none left = record {
  numbers = left.numbers;
  rising = left.rising;
  marked = λ n. (λ there. (left.marked n (All-contains (λ (m : ℕ). m < last + 1) left.numbers n left.below there)).0 there, λ mark. (left.marked n (omega (arith, none n (mark.node, mark.here)))).1 mark);
  leads = left.leads;
}
