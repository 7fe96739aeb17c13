-- Children ordered by the bytes of their names.
use Rattle.std.proofs.Common.{◌≡◌, ℕ, ◌+◌, ◌<◌, Bool, true, false, IsTrue, List, [], ◌∷◌, length, get_or, refl, sym, ap, ◌∙◌, arith}
use Rattle.std.proofs.lemmas.Bool.{true≢false, false≢true}
use Rattle.std.proofs.lemmas.Map.Keys.{Less-from_sorted, sorted_from_all_adjacent}
use Rattle.std.specs.declared.cmp.Ordering.{Ordering}
use Rattle.std.specs.declared.cmp.Ordering.TheVariants.{Less, Equal, Greater}
use Rattle.std.specs.Ordering.{is_lt, is_eq, ordering_reverse, eq_by_cmp}
use Rattle.std.specs.Cmp.{IsTotalOrder}
use Rattle.std.specs.Cmp.Lexicographic.{on_texts, texts_ties, bytes_decides}
use Rattle.std.specs.List.{IsAllAdjacentAnswer}
use Rattle.std.specs.List.Sorted.{IsStrictlySortedBy}
use Rattle.backing.specs.declared.call.Child.{Child}
use Rattle.handles.specs.Names.{by_name}

pub by_name_total : IsTotalOrder by_name
by_name_total = on_texts (λ (child : Child). child.name)

pub less_from : (r : Ordering) → is_lt r ≡ true → r ≡ Less
less_from Less h = refl
less_from Equal h = absurd (false≢true h)
less_from Greater h = absurd (false≢true h)

-- two names compare as equal exactly if they are equal
pub same_from_equal : (a b : Child) → eq_by_cmp by_name a b ≡ true → a.name ≡ b.name
same_from_equal a b h = (bytes_decides a.name b.name).0 (texts_ties a.name b.name ∙ h)

pub equal_from_same : (a b : Child) → a.name ≡ b.name → eq_by_cmp by_name a b ≡ true
equal_from_same a b e = sym (texts_ties a.name b.name) ∙ (bytes_decides a.name b.name).1 e

is_eq_reverse : (r : Ordering) → is_eq (ordering_reverse r) ≡ is_eq r
is_eq_reverse Less = refl
is_eq_reverse Equal = refl
is_eq_reverse Greater = refl

pub equal_flips : (a b : Child) → eq_by_cmp by_name a b ≡ eq_by_cmp by_name b a
equal_flips a b = ap is_eq (by_name_total.antisymm a b) ∙ is_eq_reverse (by_name b a)

less_unless : (r : Ordering) → is_lt (ordering_reverse r) ≡ false → is_eq r ≡ false → r ≡ Less
less_unless Less h d = refl
less_unless Equal h d = absurd (true≢false d)
less_unless Greater h d = absurd (true≢false h)

-- a name that is not above another, and differs from it, is below it
pub below_from : (a b : Child) → is_lt (by_name b a) ≡ false → eq_by_cmp by_name a b ≡ false → by_name a b ≡ Less
below_from a b h d = less_unless (by_name a b) (ap is_lt (sym (by_name_total.antisymm b a)) ∙ h) d

rising_adjacent : (xs : List Child) → ((k : ℕ) (d : Child) → k + 1 < length xs → true ≡ is_lt (by_name (get_or xs k d) (get_or xs (k + 1) d))) → IsStrictlySortedBy by_name xs
unfolding IsStrictlySortedBy
rising_adjacent [] h = tt
rising_adjacent (x ∷ xs) h = sorted_from_all_adjacent by_name_total (x ∷ xs) x (λ k b. less_from (by_name (get_or (x ∷ xs) k x) (get_or (x ∷ xs) (k + 1) x)) (sym (h k x b)))

not_rising : (xs : List Child) (k : ℕ) (d : Child) → k + 1 < length xs → false ≡ is_lt (by_name (get_or xs k d) (get_or xs (k + 1) d)) → IsStrictlySortedBy by_name xs → ⊥
not_rising xs k d b tells up = false≢true (tells ∙ ap is_lt (Less-from_sorted by_name xs k (k + 1) d up (omega arith) b))

-- what `is_sorted_by` says about names that should each be below the next
pub rising_decides : (xs : List Child) (d : Child) (b : Bool) → IsAllAdjacentAnswer (λ x y t. t ≡ is_lt (by_name x y)) xs b → (IsTrue b → IsStrictlySortedBy by_name xs) × (IsStrictlySortedBy by_name xs → IsTrue b)
rising_decides xs d true h = (λ t. rising_adjacent xs h, λ up. refl)
rising_decides xs d false h = (λ t. absurd (false≢true t), λ up. absurd (not_rising xs h.0 d h.1 (h.2 d) up))
