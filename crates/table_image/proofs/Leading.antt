-- Following parents along a path, and the prefixes of a path as its first names.
use Rattle.std.proofs.Common.{ℕ, ◌+◌, ◌-◌, ◌<◌, ◌≤◌, ◌≡◌, ◌≢◌, true, [], ◌∷◌, ◌++◌, length, get_or, take, drop, reverse, refl, sym, ap, ◌∙◌, subst, arith, inl, inr}
use Rattle.std.proofs.Math.Seq.{take-append_seam}
use Rattle.std.proofs.lemmas.Bool.{cases_eq}
use Rattle.std.proofs.lemmas.List.{reverse-append, take_more, take_all, take-append-drop, length-take-le}
use Rattle.paths.specs.Prefixes.{Name, Names, is_prefix}
use Rattle.paths.proofs.PrefixLemmas.{is_prefix-more, is_prefix-append, is_prefix-length}
use Rattle.holds.specs.declared.held.Held.{Held}
use Rattle.holds.specs.Conflicts.{IsHeld}
use Rattle.tree.specs.Places.{Lookup, IsNamed, IsPathOf, Reaches}
use Rattle.tree.proofs.Climbing.{named_same}
use Rattle.table_image.specs.Parts.{ArePrefixesHeld}

-- ---- parents

reverse_last : (p : Names) (x : Name) → reverse (p ++ x ∷ []) ≡ x ∷ reverse p
reverse_last p x = reverse-append p (x ∷ [])

path_up : (at : Lookup) (n : ℕ) (p : Names) (x : Name) → IsPathOf at n (p ++ x ∷ []) → (m : ℕ) × IsNamed at n m x × IsPathOf at m p
path_up at n p x h = subst (λ (up : Names). Reaches at 1 n up) (reverse_last p x) h

path_down : (at : Lookup) (n m : ℕ) (p : Names) (x : Name) → IsNamed at n m x → IsPathOf at m p → IsPathOf at n (p ++ x ∷ [])
path_down at n m p x named h = subst (λ (up : Names). Reaches at 1 n up) (sym (reverse_last p x)) (m, named, h)

last_of : (names : Names) (k : ℕ) (d : Name) → 0 < k → k ≤ length names → take k names ≡ take (k - 1) names ++ get_or names (k - 1) d ∷ []
last_of names k d some within =
    let next : (k - 1) + 1 ≡ k = omega arith in
    ap (λ (i : ℕ). take i names) (sym next) ∙ take_more names (k - 1) d (omega arith)

-- the names lead to the first node exactly if the first k of them lead to the current one
pub record IsFollowed (at : Lookup) (first current : ℕ) (names : Names) (k : ℕ) : Type 0 where
  pub back : IsPathOf at first names → IsPathOf at current (take k names)
  pub forth : IsPathOf at current (take k names) → IsPathOf at first names

pub IsFollowed-start : (at : Lookup) (n : ℕ) (names : Names) → IsFollowed at n n names (length names)
IsFollowed-start at n names =
    let all : take (length names) names ≡ names = take_all (length names) names (omega arith) in
    record { back = λ h. subst (λ (p : Names). IsPathOf at n p) (sym all) h; forth = λ h. subst (λ (p : Names). IsPathOf at n p) all h }

-- one step up, by the last of these names
pub IsFollowed-up : (at : Lookup) (first current p : ℕ) (names : Names) (k : ℕ) (x : Name) → 0 < k → k ≤ length names → x ≡ get_or names (k - 1) x
    → IsNamed at current p x → IsFollowed at first current names k → IsFollowed at first p names (k - 1)
IsFollowed-up at first current p names k x some within read named f =
    let whole : take k names ≡ take (k - 1) names ++ x ∷ [] = last_of names k x some within ∙ ap (λ (y : Name). take (k - 1) names ++ y ∷ []) (sym read) in
    record {
      back = λ h.
          let up = path_up at current (take (k - 1) names) x (subst (λ (q : Names). IsPathOf at current q) whole (f.back h)) in
          let same = named_same at current p up.0 x x named up.1 in
          subst (λ (m : ℕ). IsPathOf at m (take (k - 1) names)) (sym same.0) up.2;
      forth = λ h. f.forth (subst (λ (q : Names). IsPathOf at current q) (sym whole) (path_down at current p (take (k - 1) names) x named h));
    }

-- the last of these names leads to no parent of the current node
pub unfollowed : (at : Lookup) (first current : ℕ) (names : Names) (k : ℕ) (d : Name) → 0 < k → k ≤ length names
    → ((p : ℕ) → IsNamed at current p (get_or names (k - 1) d) → ⊥) → IsFollowed at first current names k → IsPathOf at first names → ⊥
unfollowed at first current names k d some within unnamed f h =
    let up = path_up at current (take (k - 1) names) (get_or names (k - 1) d) (subst (λ (q : Names). IsPathOf at current q) (last_of names k d some within) (f.back h)) in
    unnamed up.0 up.1

-- all names were passed
pub followed : (at : Lookup) (first current : ℕ) (names : Names) (k : ℕ) → k ≡ 0 → IsFollowed at first current names k → (current ≡ 1 → IsPathOf at first names) × (IsPathOf at first names → current ≡ 1)
followed at first current names k none f =
    let short : take k names ≡ [] = ap (λ (i : ℕ). take i names) none in
    (λ one. f.forth (subst (λ (q : Names). IsPathOf at current q) (sym short) one), λ h. subst (λ (q : Names). IsPathOf at current q) short (f.back h))

-- ---- prefixes

pub prefix_take : (p q : Names) → is_prefix p q ≡ true → p ≡ take (length p) q
prefix_take p q h = let more = is_prefix-more p q h in sym (ap (λ (r : Names). take (length p) r) more.1 ∙ take-append_seam p more.0)

pub take_prefix : (n : ℕ) (q : Names) → is_prefix (take n q) q ≡ true
take_prefix n q = subst (λ (r : Names). is_prefix (take n q) r ≡ true) (take-append-drop n q) (is_prefix-append (take n q) (drop n q))

pub prefix_of : (p q : Names) (n : ℕ) → length p ≡ n → is_prefix p q ≡ true → p ≡ take n q
prefix_of p q n long h = prefix_take p q h ∙ ap (λ (i : ℕ). take i q) long

pub is_prefix_of : (p q : Names) (n : ℕ) → p ≡ take n q → is_prefix p q ≡ true
is_prefix_of p q n e = subst (λ (r : Names). is_prefix r q ≡ true) (sym e) (take_prefix n q)

pub length_of : (p q : Names) (n : ℕ) → n ≤ length q → p ≡ take n q → length p ≡ n
length_of p q n short e = ap (λ (r : Names). length r) e ∙ length-take-le n q short

pub ruleset first_names = (prefix_of, is_prefix_of, length_of)

-- the request holds the prefixes with up to i names
pub record HoldsBelow (held : Held) (path : Names) (i : ℕ) : Type 0 where
  pub below : (j : ℕ) → j < i → IsHeld held (take (j + 1) path)

pub HoldsBelow-none : (held : Held) (path : Names) → HoldsBelow held path 0
HoldsBelow-none held path = record { below = λ j less. absurd (omega arith) }

pub HoldsBelow-more : (held : Held) (path : Names) (i : ℕ) → IsHeld held (take (i + 1) path) → HoldsBelow held path i → HoldsBelow held path (i + 1)
HoldsBelow-more held path i here before = record {
  below = λ j less. elim (cases_eq j i) [
    | inl e ↦ subst (λ (k : ℕ). IsHeld held (take (k + 1) path)) (sym e) here
    | inr ne ↦ before.below j (omega arith)
  ];
}

some_length : (prefix : Names) → prefix ≢ [] → 0 < length prefix
some_length [] some = absurd (some refl)
some_length (x ∷ prefix) some = omega arith

pub HoldsBelow-all : (held : Held) (path : Names) (i : ℕ) → length path ≤ i → HoldsBelow held path i → ArePrefixesHeld held path
unfolding ArePrefixesHeld
HoldsBelow-all held path i all below prefix is =
    let some = some_length prefix is.some in
    let short = is_prefix-length prefix path is.begins in
    let next : (length prefix - 1) + 1 ≡ length prefix = omega arith in
    let here : IsHeld held (take ((length prefix - 1) + 1) path) = below.below (length prefix - 1) (omega arith) in
    subst (λ (q : Names). IsHeld held q) (sym (prefix_take prefix path is.begins)) (subst (λ (k : ℕ). IsHeld held (take k path)) next here)

pub prefix_held : (held : Held) (path : Names) (i : ℕ) → i < length path → ArePrefixesHeld held path → IsHeld held (take (i + 1) path)
unfolding ArePrefixesHeld
prefix_held held path i within all =
    let long : length (take (i + 1) path) ≡ i + 1 = length-take-le (i + 1) path (omega arith) in
    all (take (i + 1) path) (record {
      some = λ e. let zero = ap (λ (q : Names). length q) e in absurd (omega (arith, long, zero));
      begins = take_prefix (i + 1) path;
    })
