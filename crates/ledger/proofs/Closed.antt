-- Totals fit, and closing a period leaves a ledger again.
use Rattle.std.proofs.Common.{ℕ, suc, zero, ◌+◌, ◌<◌, ◌≤◌, ◌^◌, ◌≡◌, cond, List, [], ◌∷◌, map, take, refl, sym, ap, subst, ◌∙◌, arith, All, Contains, AllPairs, length, get_or, ◌&&◌, ◌==◌, Bool, ◌≢◌}
use Rattle.std.specs.Prelude.{count_by, sum_by}
use Rattle.std.proofs.lemmas.Bool.{eqb-true, eq-eqb, and_parts, and_from, false_from_ne_true}
use Rattle.std.proofs.lemmas.List.Elements.{All-head, All-tail, Contains-get_or}
use Rattle.std.proofs.lemmas.List.Sums.{sum_by-cons, sum_by_push}
use Rattle.ledger.specs.declared.births.KeptBirths.{KeptBirths}
use Rattle.ledger.specs.declared.postings.Posting.{Posting}
use Rattle.ledger.specs.declared.postings.Posting.TheVariants.{Born, Entry, Back, Forget, Opening}
use Rattle.ledger.specs.declared.shares.Totals.{Totals}
use Rattle.ledger.specs.Closing.{AreAllAlive, Closes, opening_of}
use Rattle.ledger.specs.Periods.{Periods, posted}
use Rattle.ledger.specs.Shares.{Fits, nothing, plus}
use Rattle.ledger.specs.Sums.{IsAllowed, IsCarriedOver, IsCountable, IsNeverNegative, births_of, carried_by, count_of, entered_by, entries_of, given_back_of, given_by, is_birth, totals_by, totals_of, totals_over}
use Rattle.ledger.proofs.Balances.{IsCovered, covered_all, left_all, left_in}
use Rattle.ledger.proofs.SharesLemmas.{plus-nothing, totals_over-push}
use Rattle.ledger.proofs.SumsLemmas.{sum_by-plus, given_back_of-le, never_negative-push}

-- the periods of a ledger, given its parts
abbrev pub periods_of : List KeptBirths → Totals → List Posting → Periods
periods_of births totals last = record { births = births; totals = totals; last = last }

-- ---- totals

covers : (ps : Periods) → IsNeverNegative ps → IsCovered ps.last
covers ps never = record { within = λ n g. given_back_of-le n g ps never }

-- in all periods no more was given back and forgotten than entered
pub totals_over-covered : (ps : Periods) → IsNeverNegative ps → IsCarriedOver ps → (totals_over ps).backs + (totals_over ps).forgotten ≤ (totals_over ps).entries
totals_over-covered ps never carried =
    omega (arith, covered_all ps.last (covers ps never), carried.left, sum_by-plus carried_by (λ p. (totals_by p).entries) ps.last, sum_by-plus (λ p. (totals_by p).backs) (λ p. (totals_by p).forgotten) ps.last)

-- only openings carry anything
carries_none : (ps : Periods) (p : Posting) → IsCountable ps p → carried_by p ≡ 0
carries_none ps (Born n g) may = refl
carries_none ps (Entry n g) may = refl
carries_none ps (Back n g) may = refl
carries_none ps (Forget n g k) may = refl
carries_none ps (Opening n g k) may = absurd may

pub carried_with : (ps : Periods) (p : Posting) → carried_by p ≡ 0 → IsCarriedOver ps → IsCarriedOver (posted ps p)
carried_with ps p none carried = record {
  births = carried.births;
  entered = carried.entered;
  left = omega (arith, carried.left, sum_by_push carried_by ps.last p, none);
}

pub carried-push : (ps : Periods) (p : Posting) → IsCountable ps p → IsCarriedOver ps → IsCarriedOver (posted ps p)
carried-push ps p may carried = carried_with ps p (carries_none ps p may) carried

record IsSmall (t : Totals) : Type 0 where
  born : t.born < 2 ^ 64
  entries : t.entries < 2 ^ 64

more_fits : (ps : Periods) (p : Posting) → IsCountable ps p → Fits (totals_over ps) → IsSmall (plus (totals_over ps) (totals_by p))
more_fits ps (Born n g) may fits = record { born = omega (arith, may); entries = omega (arith, fits.entries) }
more_fits ps (Entry n g) may fits = record { born = omega (arith, fits.born); entries = omega (arith, may) }
more_fits ps (Back n g) may fits = record { born = omega (arith, fits.born); entries = omega (arith, fits.entries) }
more_fits ps (Forget n g k) may fits = record { born = omega (arith, fits.born); entries = omega (arith, fits.entries) }
more_fits ps (Opening n g k) may fits = absurd may

-- the totals still fit after one more posting
pub fits-push : (ps : Periods) (p : Posting) → IsNeverNegative ps → IsCarriedOver ps → IsAllowed ps p → IsCountable ps p → Fits (totals_over ps) → Fits (totals_over (posted ps p))
fits-push ps p never carried may countable fits =
    let covered = totals_over-covered (posted ps p) (never_negative-push ps p never may) (carried-push ps p countable carried) in
    let small : IsSmall (totals_over (posted ps p)) = subst IsSmall (sym (totals_over-push ps p)) (more_fits ps p countable fits) in
    record { born = small.born; entries = small.entries; backs = omega (arith, covered, small.entries); forgotten = omega (arith, covered, small.entries) }

-- ---- a new period

-- openings add nothing to the totals, and give nothing back
openings_nothing : (old : Periods) (pairs : List (ℕ × ℕ)) → totals_of (map (opening_of old) pairs) ≡ nothing
openings_nothing old [] = refl
openings_nothing old (a ∷ pairs) = openings_nothing old pairs

openings_carry : (old : Periods) (pairs : List (ℕ × ℕ)) → sum_by carried_by (map (opening_of old) pairs) ≡ sum_by (left_in old.last) pairs
openings_carry old [] = refl
openings_carry old (a ∷ pairs) = omega (arith, openings_carry old pairs, sum_by-cons carried_by (opening_of old a) (map (opening_of old) pairs), sum_by-cons (left_in old.last) a pairs)

none_born : (old : Periods) (pairs : List (ℕ × ℕ)) (n : ℕ) → count_by (is_birth n) (map (opening_of old) pairs) ≡ 0
none_born old [] n = refl
none_born old (a ∷ pairs) n = omega (arith, none_born old pairs n, sum_by-cons (λ p. cond (is_birth n p) 1 0) (opening_of old a) (map (opening_of old) pairs))

none_given : (old : Periods) (pairs : List (ℕ × ℕ)) (k n g : ℕ) → sum_by (given_by n g) (take k (map (opening_of old) pairs)) ≡ 0
none_given old pairs zero n g = refl
none_given old [] (suc k) n g = refl
none_given old (a ∷ pairs) (suc k) n g = omega (arith, none_given old pairs k n g, sum_by-cons (given_by n g) (opening_of old a) (take k (map (opening_of old) pairs)))

-- after closing, no count is negative, and the closed periods are carried over
pub closed_never : (old new : Periods) (alive : List (ℕ × ℕ)) → new.last ≡ map (opening_of old) alive → IsNeverNegative new
closed_never old new alive last = record {
  within = λ k n g. rw last (omega (arith, none_given old alive k n g));
}

-- each number was born as often as before
pub closed_births : (old new : Periods) (alive : List (ℕ × ℕ)) → Closes old alive new → (n : ℕ) → births_of n new ≡ births_of n old
closed_births old new alive closes n =
    let none : count_by (is_birth n) new.last ≡ 0 = ap (count_by (is_birth n)) closes.last ∙ none_born old alive n in
    omega (arith, none, closes.births n)

-- the totals of all periods do not change
pub closed_totals : (old new : Periods) (alive : List (ℕ × ℕ)) → Closes old alive new → totals_over new ≡ totals_over old
closed_totals old new alive closes =
    let none : totals_of new.last ≡ nothing = ap totals_of closes.last ∙ openings_nothing old alive in
    let plain : totals_over new ≡ plus new.totals nothing = ap (plus new.totals) none in
    plain ∙ (plus-nothing new.totals ∙ closes.totals)

-- the new period begins with everything that was left
pub closed_left : (old new : Periods) (alive : List (ℕ × ℕ)) → IsNeverNegative old → IsCarriedOver old → AreAllAlive old alive → new.totals ≡ totals_over old → new.last ≡ map (opening_of old) alive
    → new.totals.backs + new.totals.forgotten + sum_by carried_by new.last ≡ new.totals.entries
closed_left old new alive never carried all totals last =
    let sum = left_all alive old.last all.once (covers old never) all.others in
    let opened : sum_by carried_by new.last ≡ sum_by (left_in old.last) alive = ap (sum_by carried_by) last ∙ openings_carry old alive in
    let given = sum_by-plus (λ p. (totals_by p).backs) (λ p. (totals_by p).forgotten) old.last in
    let entries = sum_by-plus carried_by (λ p. (totals_by p).entries) old.last in
    rw totals (omega (arith, sum, opened, given, entries, carried.left))

-- in the new period nothing was given back yet
pub closed_given : (old new : Periods) (alive : List (ℕ × ℕ)) → new.last ≡ map (opening_of old) alive → (n g : ℕ) → given_back_of n g new ≡ 0
closed_given old new alive last n g = rw last (given_none alive)
  where
    given_none : (pairs : List (ℕ × ℕ)) → sum_by (given_by n g) (map (opening_of old) pairs) ≡ 0
    given_none [] = refl
    given_none (a ∷ pairs) = omega (arith, given_none pairs, sum_by-cons (given_by n g) (opening_of old a) (map (opening_of old) pairs))

other_opening : (old : Periods) (n g : ℕ) (a : ℕ × ℕ) → (a ≡ (n, g) → ⊥) → entered_by n g (opening_of old a) ≡ 0
other_opening old n g (m, h) ne = ap (λ (b : Bool). cond b (count_of m h old) 0) (false_from_ne_true (m == n && h == g) (λ yes.
    let parts = and_parts (m == n) (h == g) yes in
    let number : m ≡ n = eqb-true m n parts.0 in
    let life : h ≡ g = eqb-true h g parts.1 in
    ne (λ i. (number i, life i))))

same_opening : (old : Periods) (n g : ℕ) (a : ℕ × ℕ) → a ≡ (n, g) → entered_by n g (opening_of old a) ≡ count_of n g old
same_opening old n g a is = ap (λ (b : ℕ × ℕ). entered_by n g (opening_of old b)) is ∙ ap (λ (b : Bool). cond b (count_of n g old) 0) (and_from (n == n) (g == g) (eq-eqb n n refl) (eq-eqb g g refl))

entered_none : (old : Periods) (n g : ℕ) (pairs : List (ℕ × ℕ)) → All (λ a. a ≢ (n, g)) pairs → sum_by (entered_by n g) (map (opening_of old) pairs) ≡ 0
entered_none old n g [] none = refl
entered_none old n g (a ∷ pairs) none =
    let first = other_opening old n g a (All-head (λ b. b ≢ (n, g)) a pairs none) in
    omega (arith, first, entered_none old n g pairs (All-tail (λ b. b ≢ (n, g)) a pairs none), sum_by-cons (entered_by n g) (opening_of old a) (map (opening_of old) pairs))

-- in the new period nothing was entered for a number and generation that has no opening
pub closed_absent : (old new : Periods) (alive : List (ℕ × ℕ)) → new.last ≡ map (opening_of old) alive → (n g : ℕ) → (Contains alive (n, g) → ⊥) → entries_of n g new ≡ 0
closed_absent old new alive last n g absent = rw last (entered_none old n g alive (λ k d within same. absent (subst (Contains alive) same (Contains-get_or alive k d within))))

entered_once : (old : Periods) (n g : ℕ) (pairs : List (ℕ × ℕ)) → AllPairs (λ a b. a ≢ b) pairs → (k : ℕ) → k < length pairs → get_or pairs k (n, g) ≡ (n, g) → sum_by (entered_by n g) (map (opening_of old) pairs) ≡ count_of n g old
entered_once old n g [] once k within is = absurd (omega arith)
entered_once old n g (a ∷ pairs) once zero within is =
    let others : All (λ b. b ≢ (n, g)) pairs = λ j d inside same. once 0 (suc j) d (omega arith) (omega arith) (is ∙ sym same) in
    omega (arith, same_opening old n g a is, entered_none old n g pairs others, sum_by-cons (entered_by n g) (opening_of old a) (map (opening_of old) pairs))
entered_once old n g (a ∷ pairs) once (suc k) within is =
    let later : AllPairs (λ b c. b ≢ c) pairs = λ i j d before inside. once (suc i) (suc j) d (omega arith) (omega arith) in
    let first : a ≡ (n, g) → ⊥ = λ same. once 0 (suc k) (n, g) (omega arith) within (same ∙ sym is) in
    omega (arith, other_opening old n g a first, entered_once old n g pairs later k (omega arith) is, sum_by-cons (entered_by n g) (opening_of old a) (map (opening_of old) pairs))

-- and for one that has an opening, as much as was left
pub closed_present : (old new : Periods) (alive : List (ℕ × ℕ)) → AllPairs (λ a b. a ≢ b) alive → new.last ≡ map (opening_of old) alive → (n g : ℕ) → Contains alive (n, g) → entries_of n g new ≡ count_of n g old
closed_present old new alive once last n g there = rw last (entered_once old n g alive once there.0 there.1 there.2)
