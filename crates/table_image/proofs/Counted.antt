-- The counts of the holders of a path.
use Rattle.std.proofs.Common.{ℕ, zero, suc, ◌<◌, ◌≡◌, ◌≢◌, ◌&&◌, ◌⊎◌, Bool, true, false, cond, List, [], ◌∷◌, Contains, length, get_or, refl, sym, ap, ◌∙◌, subst, arith, inl, inr}
use Rattle.std.specs.Prelude.{All, AllPairs, count_by}
use Rattle.std.specs.List.{list_any}
use Rattle.std.proofs.lemmas.Bool.{and_parts, and_from, cases_Bool, false≢true, true≢false}
use Rattle.std.proofs.lemmas.List.{get_or_default}
use Rattle.std.proofs.lemmas.List.Sums.{sum_by-cons}
use Rattle.std.proofs.lemmas.List.Folds.{Any-from_list_any, list_any_at}
use Rattle.paths.specs.Prefixes.{Names, is_prefix}
use Rattle.paths.proofs.PrefixLemmas.{is_prefix-both, is_prefix-same}
use Rattle.holds.specs.Conflicts.{is_among}
use Rattle.holds.proofs.Among.{among_found}
use Rattle.table_image.specs.declared.data.Hold.{Hold}
use Rattle.table_image.specs.declared.data.Record.{Record}
use Rattle.table_image.specs.declared.data.ImageStage.{ImageStage}
use Rattle.table_image.specs.declared.data.ImageStage.TheVariants.{Working, Answered}
use Rattle.table_image.specs.ImageLaw.{is_working, shares, holds_exclusively, AreHoldsCounted}
use Rattle.table_image.specs.Parts.{IsHoldCount, HaveOtherPaths, IsStored, AreStored}

-- ---- counts and paths

pub count_none : {A : Type 0} (test : A → Bool) (xs : List A) → All (λ x. test x ≡ false) xs → count_by test xs ≡ 0
count_none test [] none = refl
count_none {A} test (x ∷ xs) none =
    let first : test x ≡ false = none 0 x (omega arith) in
    let rest : count_by test xs ≡ 0 = count_none test xs (λ k d within. none (suc k) d (omega arith)) in
    rw (first, rest) refl

abbrev one_if : Bool → ℕ
one_if b = cond b 1 0

pub count_some : {A : Type 0} (test : A → Bool) (xs : List A) (k : ℕ) (d : A) → k < length xs → test (get_or xs k d) ≡ true → 0 < count_by test xs
count_some test [] k d within is = absurd (omega arith)
count_some test (x ∷ xs) zero d within is =
    let first : one_if (test x) ≡ 1 = ap one_if is in
    omega (arith, first, sum_by-cons (λ y. one_if (test y)) x xs)
count_some test (x ∷ xs) (suc k) d within is =
    let rest = count_some test xs k d (omega arith) is in
    omega (arith, rest, sum_by-cons (λ y. one_if (test y)) x xs)

pub among_contains : (ps : List Names) (path : Names) → is_among ps path ≡ true → Contains ps path
among_contains ps path is =
    let some = Any-from_list_any (λ (p : Names). is_prefix p path && is_prefix path p) ps is in
    let both = and_parts (is_prefix some.1 path) (is_prefix path some.1) some.4 in
    let same : some.1 ≡ path = is_prefix-both some.1 path both.0 both.1 in
    (some.0, some.2, subst (λ (p : Names). get_or ps some.0 p ≡ p) same some.3)

pub contains_among : (ps : List Names) (path : Names) → Contains ps path → is_among ps path ≡ true
contains_among ps path found = among_found ps found.0 path path found.1 found.2

-- whether the hold is of the path
abbrev is_of : Names → Hold → Bool
is_of path h = is_prefix h.path path && is_prefix path h.path

is_of-same : (h : Hold) (path : Names) → h.path ≡ path → is_of path h ≡ true
is_of-same h path e = and_from (is_prefix h.path path) (is_prefix path h.path) (subst (λ (p : Names). is_prefix h.path p ≡ true) e (is_prefix-same h.path)) (subst (λ (p : Names). is_prefix p h.path ≡ true) e (is_prefix-same h.path))

none_of : (hs : List Hold) (path : Names) → list_any (is_of path) hs ≡ false → All (λ (h : Hold). h.path ≢ path) hs
none_of hs path none k d within e = true≢false (sym (list_any_at (is_of path) hs k d within (is_of-same (get_or hs k d) path e)) ∙ none)

-- a path is stored or not
pub stored_or_absent : (hs : List Hold) (path : Names) → IsStored hs path ⊎ All (λ (h : Hold). h.path ≢ path) hs
unfolding IsStored
stored_or_absent hs path = elim (cases_Bool (list_any (is_of path) hs)) [
  | inl found ↦
      let some = Any-from_list_any (is_of path) hs found in
      let both = and_parts (is_prefix some.1.path path) (is_prefix path some.1.path) some.4 in
      inl (some.0, some.1, some.2, some.3, is_prefix-both some.1.path path both.0 both.1)
  | inr none ↦ inr (none_of hs path none)
]

pub stored_not_absent : (hs : List Hold) (path : Names) → IsStored hs path → All (λ (h : Hold). h.path ≢ path) hs → ⊥
unfolding IsStored
stored_not_absent hs path some none = none some.0 some.1 some.2 (ap (λ (h : Hold). h.path) some.3 ∙ some.4)

-- ---- what a request holds

working : (stage : ImageStage) → is_working stage ≡ true → stage ≡ Working
working Working is = refl
working Answered is = absurd (false≢true is)

unheld : (stage : ImageStage) (ps : List Names) (path : Names) → (stage ≡ Working → Contains ps path → ⊥) → (is_working stage && is_among ps path) ≡ false
unheld stage ps path none = elim (cases_Bool (is_working stage && is_among ps path)) [
  | inl both ↦
      let parts = and_parts (is_working stage) (is_among ps path) both in
      absurd (none (working stage parts.0) (among_contains ps path parts.1))
  | inr neither ↦ neither
]

held : (stage : ImageStage) (ps : List Names) (path : Names) → stage ≡ Working → Contains ps path → (is_working stage && is_among ps path) ≡ true
held stage ps path is found = and_from (is_working stage) (is_among ps path) (ap is_working is) (contains_among ps path found)

stored_at : (hs : List Hold) (ps : List Names) (path : Names) → All (IsStored hs) ps → Contains ps path → IsStored hs path
stored_at hs ps path all found = subst (IsStored hs) found.2 (all found.0 path found.1)

-- ---- the law in parts

pub counts_of : (hs : List Hold) (rs : List Record) → AllPairs HaveOtherPaths hs → All (IsHoldCount rs) hs → All (AreStored hs) rs → AreHoldsCounted hs rs
unfolding IsHoldCount
counts_of hs rs once each stored = record {
  once = once;
  each = each;
  absent = λ path none. (
    count_none (λ (r : Record). shares r path) rs (λ k d within.
        unheld (get_or rs k d).stage (get_or rs k d).held.shared path (λ is found. stored_not_absent hs path (stored_at hs (get_or rs k d).held.shared path ((stored k d within).shared is) found) none)),
    count_none (λ (r : Record). holds_exclusively r path) rs (λ k d within.
        unheld (get_or rs k d).stage (get_or rs k d).held.exclusive path (λ is found. stored_not_absent hs path (stored_at hs (get_or rs k d).held.exclusive path ((stored k d within).exclusive is) found) none)),
  );
}

pub once_of : (hs : List Hold) (rs : List Record) → AreHoldsCounted hs rs → AllPairs HaveOtherPaths hs
once_of hs rs counts = counts.once

pub each_of : (hs : List Hold) (rs : List Record) → AreHoldsCounted hs rs → All (IsHoldCount rs) hs
unfolding IsHoldCount
each_of hs rs counts = counts.each

is_at : {A : Type 0} (xs : List A) (i : ℕ) (d : A) → i < length xs → Contains xs (get_or xs i d)
is_at xs i d within = (i, within, get_or_default xs i (get_or xs i d) d within)

pub stored_of : (hs : List Hold) (rs : List Record) → AreHoldsCounted hs rs → All (AreStored hs) rs
stored_of hs rs counts k d within = record {
  shared = λ is i e inside.
      let path = get_or (get_or rs k d).held.shared i e in
      elim (stored_or_absent hs path) [
        | inl stored ↦ stored
        | inr none ↦
            let zero = (counts.absent path none).0 in
            let one = count_some (λ (r : Record). shares r path) rs k d within (held (get_or rs k d).stage (get_or rs k d).held.shared path is (is_at (get_or rs k d).held.shared i e inside)) in
            absurd (omega (arith, zero, one))
      ];
  exclusive = λ is i e inside.
      let path = get_or (get_or rs k d).held.exclusive i e in
      elim (stored_or_absent hs path) [
        | inl stored ↦ stored
        | inr none ↦
            let zero = (counts.absent path none).1 in
            let one = count_some (λ (r : Record). holds_exclusively r path) rs k d within (held (get_or rs k d).stage (get_or rs k d).held.exclusive path is (is_at (get_or rs k d).held.exclusive i e inside)) in
            absurd (omega (arith, zero, one))
      ];
}

pub ruleset counts_parts = (counts_of, once_of, each_of, stored_of)
