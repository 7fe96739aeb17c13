-- When a page is too small.
use Rattle.std.proofs.Common.{◌≡◌, ℕ, ◌<◌, ◌≤◌, Bool, List, [], ◌∷◌, refl, length, take, ap, ◌∙◌, arith, inl, inr, zero-add}
use Rattle.std.proofs.lemmas.Bool.{cases_lt}
use Rattle.std.proofs.lemmas.List.{take-take}
use Rattle.std.proofs.lemmas.List.Sums.{sum_by-take-le}
use Rattle.backing.specs.declared.call.Child.{Child}
use Rattle.handles.specs.Pages.{padded, bytes_of, IsLongestRun, IsSmall}

first_bytes : (plus : Bool) (child : Child) (entries : List Child) → bytes_of plus (take 1 (child ∷ entries)) ≡ padded plus child
first_bytes plus child entries = zero-add (padded plus child)

-- If no entry fits, but there are entries, the first one is too long.
pub small_first : (plus : Bool) (size : ℕ) (entries : List Child) → IsLongestRun plus size entries (take 0 entries) → 0 < length entries → IsSmall plus size entries
small_first plus size [] run some = absurd (omega arith)
small_first plus size (child ∷ entries) run some = record {
  first = child;
  more = entries;
  there = refl;
  small = elim (cases_lt size (padded plus child)) [
    | inl over ↦ over
    | inr fits ↦
        let one : bytes_of plus (take 1 (child ∷ entries)) ≡ padded plus child = first_bytes plus child entries in
        let none : 1 ≤ length (take 0 (child ∷ entries)) = run.longest 1 (omega arith) (omega (arith, one, fits)) in
        absurd (omega (arith, none))
  ];
}

-- If one entry fits, or there are none, the size is not too small.
pub not_small : (plus : Bool) (size n : ℕ) (entries : List Child) → IsLongestRun plus size entries (take n entries) → (n ≡ 0 → length entries ≡ 0) → IsSmall plus size entries → ⊥
not_small plus size n entries run some s =
    let long : length entries ≡ length (s.first ∷ s.more) = ap (λ (es : List Child). length es) s.there in
    let first : bytes_of plus (take 1 entries) ≡ padded plus s.first = ap (λ (es : List Child). bytes_of plus (take 1 es)) s.there ∙ first_bytes plus s.first s.more in
    let part : bytes_of plus (take 1 (take n entries)) ≤ bytes_of plus (take n entries) = sum_by-take-le (padded plus) (take n entries) 1 in
    elim (cases_lt 0 n) [
      | inl more ↦
          let same : bytes_of plus (take 1 (take n entries)) ≡ bytes_of plus (take 1 entries) = ap (bytes_of plus) (take-take 1 n entries (omega (arith, more))) in
          absurd (omega (arith, first, part, same, run.fits, s.small))
      | inr none ↦
          let bare : length entries ≡ 0 = some (omega (arith, none)) in
          absurd (omega (arith, long, bare))
    ]
