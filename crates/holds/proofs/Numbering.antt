-- The numbers of paths after those of one path were written, and the counts over a list of paths.
use Rattle.std.proofs.Common.{ℕ, ◌+◌, ◌<◌, ◌≤◌, ◌≡◌, ◌||◌, ◌&&◌, if◌then◌else◌, Bool, true, false, List, [], ◌∷◌, ◌++◌, Option, Some, None, length, get_or, refl, sym, ap, ◌∙◌, subst, inl, inr, arith}
use Rattle.std.specs.Prelude.{IsTrue, ◌↔◌, unwrap_or}
use Rattle.std.specs.Map.{lookup}
use Rattle.std.specs.Cmp.Lexicographic.{bytes_decides, pointwise_decides}
use Rattle.std.proofs.lemmas.Bool.{cases_Bool, cond-false, cond-true, false≢true}
use Rattle.std.proofs.lemmas.List.Folds.{list_any-append}
use Rattle.paths.specs.Prefixes.{Names, is_prefix}
use Rattle.collections.specs.Living.{found, joined, live, living}
use Rattle.collections.proofs.Entries.{none_living}
use Rattle.indexmap.specs.IndexMap.{IndexMap}
use Rattle.holds.specs.declared.held.Held.{Held}
use Rattle.holds.specs.declared.numbers.Holders.{Holders}
use Rattle.holds.specs.declared.numbers.HoldNumbers.{HoldNumbers}
use Rattle.holds.specs.Conflicts.{is_among}
use Rattle.holds.specs.Numbers.{AreNumbers, IsHeldUp, counted_in, holders_on, is_same_path, no_holders}
use Rattle.holds.proofs.Among.{among_found, other_path, same_path}

pub same_path_is : (p q : Names) → is_same_path p q ≡ true → p ≡ q
same_path_is p q h = (pointwise_decides bytes_decides p q).0 h

pub same_path_yes : (p q : Names) → p ≡ q → is_same_path p q ≡ true
same_path_yes p q e = (pointwise_decides bytes_decides p q).1 e

-- two tests of the same fact
test_is : (p q : Names) → (is_prefix p q && is_prefix q p) ≡ is_same_path p q
test_is p q = elim (cases_Bool (is_same_path p q)) [
  | inl hit ↦ same_path p q (same_path_is p q hit) ∙ sym hit
  | inr miss ↦ other_path p q (λ e. false≢true (sym miss ∙ same_path_yes p q e)) ∙ sym miss
]

or_none : (a : Bool) → (a || false) ≡ a
or_none true = refl
or_none false = refl

or_true : (a b : Bool) → b ≡ true → (a || b) ≡ true
or_true true b h = refl
or_true false b h = h

or_false : (a b : Bool) → b ≡ false → (a || b) ≡ a
or_false true b h = refl
or_false false b h = h

pub among_push : (ps : List Names) (key p : Names) → is_among (ps ++ key ∷ []) p ≡ (is_among ps p || is_same_path key p)
among_push ps key p =
    list_any-append (λ (q : Names). is_prefix q p && is_prefix p q) ps (key ∷ [])
    ∙ ap (λ b. is_among ps p || b) (or_none (is_prefix key p && is_prefix p key) ∙ test_is key p)

pub counted_yes : (ps : List Names) (p : Names) (n : ℕ) → is_among ps p ≡ true → counted_in ps p n ≡ n
counted_yes ps p n h = cond-true (is_among ps p) n 0 h

pub counted_no : (ps : List Names) (p : Names) (n : ℕ) → is_among ps p ≡ false → counted_in ps p n ≡ 0
counted_no ps p n h = cond-false (is_among ps p) n 0 h

pub counted_most : (ps : List Names) (p : Names) (n : ℕ) → counted_in ps p n ≤ n
counted_most ps p n = elim (cases_Bool (is_among ps p)) [
  | inl h ↦ let e = counted_yes ps p n h in omega (arith, e)
  | inr h ↦ let e = counted_no ps p n h in omega (arith, e)
]

-- a path that is among those before it
pub counted_seen : (ps : List Names) (key : Names) (n : ℕ) → is_among ps key ≡ true → (p : Names) → counted_in (ps ++ key ∷ []) p n ≡ counted_in ps p n
counted_seen ps key n there p = elim (cases_Bool (is_same_path key p)) [
  | inl hit ↦
      let here : is_among ps p ≡ true = subst (λ (q : Names). is_among ps q ≡ true) (same_path_is key p hit) there in
      counted_yes (ps ++ key ∷ []) p n (among_push ps key p ∙ or_true (is_among ps p) (is_same_path key p) hit) ∙ sym (counted_yes ps p n here)
  | inr miss ↦ ap (λ (b : Bool). if b then n else 0) (among_push ps key p ∙ or_false (is_among ps p) (is_same_path key p) miss)
]

-- a path that is not
pub counted_new : (ps : List Names) (key : Names) (n : ℕ) → is_among ps key ≡ false → (p : Names) → counted_in (ps ++ key ∷ []) p n ≡ counted_in ps p n + (if is_same_path key p then n else 0)
counted_new ps key n absent p = elim (cases_Bool (is_same_path key p)) [
  | inl hit ↦
      let gone : is_among ps p ≡ false = subst (λ (q : Names). is_among ps q ≡ false) (same_path_is key p hit) absent in
      let all = counted_yes (ps ++ key ∷ []) p n (among_push ps key p ∙ or_true (is_among ps p) (is_same_path key p) hit) in
      let none = counted_no ps p n gone in
      let one : (if is_same_path key p then n else 0) ≡ n = cond-true (is_same_path key p) n 0 hit in
      omega (arith, all, none, one)
  | inr miss ↦
      let same : counted_in (ps ++ key ∷ []) p n ≡ counted_in ps p n = ap (λ (b : Bool). if b then n else 0) (among_push ps key p ∙ or_false (is_among ps p) (is_same_path key p) miss) in
      let zero : (if is_same_path key p then n else 0) ≡ 0 = cond-false (is_same_path key p) n 0 miss in
      omega (arith, same, zero)
]

pub counted_own : (ps : List Names) (i : ℕ) (d key : Names) (n : ℕ) → i < length ps → get_or ps i d ≡ key → counted_in ps key n ≡ n
counted_own ps i d key n within e = counted_yes ps key n (among_found ps i d key within e)

-- what is found after the value of a key was written
module _ (f g : Names → Option Holders) (key : Names) (o : Option Holders) (written : (q : Names) → g q ≡ (if is_same_path key q then o else f q)) where
  at_key : (q : Names) → is_same_path key q ≡ true → g q ≡ o
  at_key q hit = written q ∙ cond-true (is_same_path key q) o (f q) hit

  at_other : (q : Names) → is_same_path key q ≡ false → g q ≡ f q
  at_other q miss = written q ∙ cond-false (is_same_path key q) o (f q) miss

  module _ (number : Holders → ℕ) (one : ℕ) where
    pub risen : number (unwrap_or o no_holders) ≡ number (unwrap_or (f key) no_holders) + one → (p : Names) → number (unwrap_or (g p) no_holders) ≡ number (unwrap_or (f p) no_holders) + (if is_same_path key p then one else 0)
    risen is p = elim (cases_Bool (is_same_path key p)) [
      | inl hit ↦
          let now = ap (λ (h : Option Holders). number (unwrap_or h no_holders)) (at_key p hit) in
          let was = ap (λ (q : Names). number (unwrap_or (f q) no_holders)) (same_path_is key p hit) in
          let more : (if is_same_path key p then one else 0) ≡ one = cond-true (is_same_path key p) one 0 hit in
          omega (arith, now, was, more, is)
      | inr miss ↦
          let now = ap (λ (h : Option Holders). number (unwrap_or h no_holders)) (at_other p miss) in
          let zero : (if is_same_path key p then one else 0) ≡ 0 = cond-false (is_same_path key p) one 0 miss in
          omega (arith, now, zero)
    ]

    pub fallen : number (unwrap_or o no_holders) + one ≡ number (unwrap_or (f key) no_holders) → (p : Names) → number (unwrap_or (g p) no_holders) + (if is_same_path key p then one else 0) ≡ number (unwrap_or (f p) no_holders)
    fallen is p = elim (cases_Bool (is_same_path key p)) [
      | inl hit ↦
          let now = ap (λ (h : Option Holders). number (unwrap_or h no_holders)) (at_key p hit) in
          let was = ap (λ (q : Names). number (unwrap_or (f q) no_holders)) (same_path_is key p hit) in
          let more : (if is_same_path key p then one else 0) ≡ one = cond-true (is_same_path key p) one 0 hit in
          omega (arith, now, was, more, is)
      | inr miss ↦
          let now = ap (λ (h : Option Holders). number (unwrap_or h no_holders)) (at_other p miss) in
          let zero : (if is_same_path key p then one else 0) ≡ 0 = cond-false (is_same_path key p) one 0 miss in
          omega (arith, now, zero)
    ]

  pub held_still : ((h : Holders) → o ≡ Some h → 0 < h.shared + h.exclusive) → ((p : Names) (h : Holders) → f p ≡ Some h → 0 < h.shared + h.exclusive) → (p : Names) (h : Holders) → g p ≡ Some h → 0 < h.shared + h.exclusive
  held_still new old p h there = elim (cases_Bool (is_same_path key p)) [
    | inl hit ↦ new h (sym (at_key p hit) ∙ there)
    | inr miss ↦ old p h (sym (at_other p miss) ∙ there)
  ]

-- of two writes to one key the last one counts
pub rewritten : (f g h : Names → Option Holders) (key : Names) (o p : Option Holders) → ((q : Names) → g q ≡ (if is_same_path key q then o else f q)) → ((q : Names) → h q ≡ (if is_same_path key q then p else g q)) → (q : Names) → h q ≡ (if is_same_path key q then p else f q)
rewritten f g h key o p first last q = elim (cases_Bool (is_same_path key q)) [
  | inl hit ↦ at_key g h key p last q hit ∙ sym (cond-true (is_same_path key q) p (f q) hit)
  | inr miss ↦ at_other g h key p last q miss ∙ (at_other f g key o first q miss ∙ sym (cond-false (is_same_path key q) p (f q) miss))
]

-- a path is as good as its copy
pub put_at : (f g : Names → Option Holders) (o : Option Holders) {key copy : Names} → copy ≡ key → ((q : Names) → g q ≡ (if is_same_path copy q then o else f q)) → (q : Names) → g q ≡ (if is_same_path key q then o else f q)
put_at f g o is written = subst (λ (k : Names). (q : Names) → g q ≡ (if is_same_path k q then o else f q)) is written

-- what is found for the copy is found for the path
pub told_at : (f : Names → Option Holders) (told o : Option Holders) {key copy : Names} → copy ≡ key → told ≡ f copy → told ≡ o → f key ≡ o
told_at f told o is from same = ap f (sym is) ∙ (sym from ∙ same)

-- no path has numbers
pub none_found : {S : Type 0} → (m : IndexMap Names (Option Holders) S) → live m ≡ 0 → (p : Names) → found is_same_path m p ≡ None
none_found m none p = none_living (is_same_path p) m.entries none

-- an exact test agrees with the map's
pub same_test : (b : Bool) (p q : Names) → IsTrue b ↔ (q ≡ p) → b ≡ is_same_path p q
same_test b p q exact = elim (cases_Bool (is_same_path p q)) [
  | inl hit ↦ exact.1 (sym (same_path_is p q hit)) ∙ sym hit
  | inr miss ↦ elim (cases_Bool b) [
    | inl hit ↦ absurd (false≢true (sym miss ∙ same_path_yes p q (sym (exact.0 hit))))
    | inr other ↦ other ∙ sym miss
  ]
]

-- entries that do not change
pub numbers_kept : (old new : HoldNumbers) → new.paths ≡ old.paths → new.by_path.entries ≡ old.by_path.entries → AreNumbers old → AreNumbers new
numbers_kept old new paths entries law = record {
  counted = paths ∙ (law.counted ∙ ap living (sym entries));
  held = λ p h there. law.held p h (ap (λ (es : List (Names × Option Holders)). joined (lookup (is_same_path p) es)) (sym entries) ∙ there);
}

-- if nothing is held, nothing must wait
pub none_held_up : (numbers : HoldNumbers) (wanted : Held) → AreNumbers numbers → numbers.paths ≡ 0 → IsHeldUp numbers wanted → ⊥
none_held_up numbers wanted law none held =
    let empty : (p : Names) → holders_on numbers p ≡ no_holders = λ p. ap (λ (o : Option Holders). unwrap_or o no_holders) (none_found numbers.by_path (sym law.counted ∙ none) p) in
    elim held [
      | inl h ↦ let s = ap (λ (x : Holders). x.shared) (empty h.1) in let e = ap (λ (x : Holders). x.exclusive) (empty h.1) in let bad = h.4 in omega (arith, bad, s, e)
      | inr h ↦ let e = ap (λ (x : Holders). x.exclusive) (empty h.1) in let bad = h.4 in omega (arith, bad, e)
    ]

-- both numbers are the same
pub same_holders : (a b : Holders) → a.shared ≡ b.shared → a.exclusive ≡ b.exclusive → a ≡ b
same_holders a b shared exclusive = ap (λ (n : ℕ). record a { shared = n }) shared ∙ ap (λ (n : ℕ). record b { exclusive = n }) exclusive
