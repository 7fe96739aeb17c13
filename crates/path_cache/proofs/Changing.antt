-- What is reached after an entry was taken out, put or moved, and that numbers stay apart.
use Rattle.std.proofs.Common.{◌≡◌, ℕ, ◌+◌, ◌<◌, ◌==◌, ◌&&◌, Bool, true, false, nat_eq, ◌⊎◌, inl, inr, [], ◌∷◌, ◌++◌, Option, Some, None, refl, sym, ap, ◌∙◌, subst, arith, append_assoc}
use Rattle.std.specs.Cmp.Lexicographic.{pointwise, bytes_decides}
use Rattle.std.proofs.lemmas.Bool.{cases_Bool, cond-true, cond-false, true≢false, and_parts, eqb-true, eq-eqb, false_from_ne_true, and_from}
use Rattle.std.proofs.lemmas.Option.{none-some, same_Some}
use Rattle.paths.specs.Prefixes.{Name, Names, is_prefix}
use Rattle.paths.proofs.PrefixLemmas.{is_prefix-more, is_prefix-append, is_prefix-trans}
use Rattle.path_cache.specs.Walks.{Kept, Finds, walk, root_of, reached, with_found, without_found, IsNumbered}
use Rattle.path_cache.proofs.Walking.{SameBut, cases_option, walk-none, reached-root, elsewhere, below, last_name, folder_of}

-- ---- the same key, and another one

abbrev pub is_same : ℕ → Name → ℕ → Name → Bool
is_same n name m other = (n == m) && pointwise nat_eq name other

pub same_parts : (n m : ℕ) (name other : Name) → is_same n name m other ≡ true → (n ≡ m) × (name ≡ other)
same_parts n m name other same =
    let parts = and_parts (n == m) (pointwise nat_eq name other) same in
    (eqb-true n m parts.0, (bytes_decides name other).0 parts.1)

same_itself : (n : ℕ) (name : Name) → is_same n name n name ≡ true
same_itself n name = and_from (n == n) (pointwise nat_eq name name) (eq-eqb n n refl) ((bytes_decides name name).1 refl)

not_same : (n m : ℕ) (name other : Name) → (n ≡ m → name ≡ other → ⊥) → is_same n name m other ≡ false
not_same n m name other differ = false_from_ne_true (is_same n name m other) (λ same. let parts = same_parts n m name other same in differ parts.0 parts.1)

module _ {V : Type 0} (find : Finds V) (n : ℕ) (name : Name) where
  pub with_here : (e : Kept V) → with_found find n name e n name ≡ Some e
  with_here e = cond-true (is_same n name n name) (Some e) (find n name) (same_itself n name)

  pub with_others : (e : Kept V) → SameBut find n name (with_found find n name e)
  with_others e m other differ = cond-false (is_same n name m other) (Some e) (find m other) (not_same n m name other differ)

  pub without_here : without_found find n name n name ≡ None
  without_here = cond-true (is_same n name n name) None (find n name) (same_itself n name)

  pub without_others : SameBut find n name (without_found find n name)
  without_others m other differ = cond-false (is_same n name m other) None (find m other) (not_same n m name other differ)

  -- what is found is the entry that was put, or what was found before
  with_cases : (e : Kept V) (m : ℕ) (other : Name) → ((n ≡ m) × (name ≡ other) × (with_found find n name e m other ≡ Some e)) ⊎ (with_found find n name e m other ≡ find m other)
  with_cases e m other = elim (cases_Bool (is_same n name m other)) [
    | inl same ↦ let parts = same_parts n m name other same in inl (parts.0, parts.1, cond-true (is_same n name m other) (Some e) (find m other) same)
    | inr differs ↦ inr (cond-false (is_same n name m other) (Some e) (find m other) differs)
  ]

  pub without_cases : (m : ℕ) (other : Name) → (without_found find n name m other ≡ find m other) ⊎ (without_found find n name m other ≡ None)
  without_cases m other = elim (cases_Bool (is_same n name m other)) [
    | inl same ↦ inr (cond-true (is_same n name m other) None (find m other) same)
    | inr differs ↦ inl (cond-false (is_same n name m other) None (find m other) differs)
  ]

-- ---- numbers

-- some entries are left out
abbrev pub IsPart : {V : Type 0} → Finds V → Finds V → Type 0
IsPart find part = (m : ℕ) (other : Name) → (part m other ≡ find m other) ⊎ (part m other ≡ None)

part_some : {V : Type 0} (find part : Finds V) → IsPart find part → (m : ℕ) (other : Name) (e : Kept V) → part m other ≡ Some e → find m other ≡ Some e
part_some find part is m other e h = elim (is m other) [
  | inl same ↦ sym same ∙ h
  | inr none ↦ absurd (none-some e (sym none ∙ h))
]

pub part_numbered : {V : Type 0} (find part : Finds V) (next : ℕ) → IsPart find part → IsNumbered find next → IsNumbered part next
part_numbered find part next is law = record {
  apart = λ n m x y e f at_e at_f same. law.apart n m x y e f (part_some find part is n x e at_e) (part_some find part is m y f at_f) same;
  positive = λ n x e at. law.positive n x e (part_some find part is n x e at);
  below = λ n x e at. law.below n x e (part_some find part is n x e at);
  parents = λ n x e at. law.parents n x e (part_some find part is n x e at);
  begun = law.begun;
}

pub later_numbered : {V : Type 0} (find : Finds V) (next : ℕ) → IsNumbered find next → IsNumbered find (next + 1)
later_numbered find next law = record {
  apart = law.apart;
  positive = law.positive;
  below = λ n x e at. let under = law.below n x e at in omega arith;
  parents = λ n x e at. let under = law.parents n x e at in omega arith;
  begun = omega arith;
}

-- an entry is put whose number no other has
module _ {V : Type 0} (find : Finds V) (next : ℕ) (law : IsNumbered find next) (n : ℕ) (name : Name) (e : Kept V) (fresh : (m : ℕ) (other : Name) (f : Kept V) → find m other ≡ Some f → f.number ≡ e.number → ⊥) where
  new_one : (m : ℕ) (other : Name) (f : Kept V) → with_found find n name e m other ≡ Some f → ((n ≡ m) × (name ≡ other) × (e ≡ f)) ⊎ (find m other ≡ Some f)
  new_one m other f h = elim (with_cases find n name e m other) [
    | inl (folder, word, is) ↦ inl (folder, word, same_Some e f (sym is ∙ h))
    | inr same ↦ inr (sym same ∙ h)
  ]

  with_apart : (a b : ℕ) (x y : Name) (f g : Kept V) → with_found find n name e a x ≡ Some f → with_found find n name e b y ≡ Some g → f.number ≡ g.number → (a ≡ b) × (x ≡ y)
  with_apart a b x y f g at_f at_g same = elim (new_one a x f at_f) [
    | inl (folder, word, is) ↦ elim (new_one b y g at_g) [
      | inl (folder', word', is') ↦ (sym folder ∙ folder', sym word ∙ word')
      | inr was ↦ absurd (fresh b y g was (sym same ∙ sym (ap (λ (k : Kept V). k.number) is)))
    ]
    | inr was_f ↦ elim (new_one b y g at_g) [
      | inl (folder, word, is) ↦ absurd (fresh a x f was_f (same ∙ sym (ap (λ (k : Kept V). k.number) is)))
      | inr was_g ↦ law.apart a b x y f g was_f was_g same
    ]
  ]

  pub with_numbered : 0 < e.number → e.number < next → n < next → IsNumbered (with_found find n name e) next
  with_numbered positive under folder_under = record {
    apart = with_apart;
    positive = λ m x f at. elim (new_one m x f at) [ inl (_, _, is) ↦ subst (λ (k : Kept V). 0 < k.number) is positive | inr was ↦ law.positive m x f was ];
    below = λ m x f at. elim (new_one m x f at) [ inl (_, _, is) ↦ subst (λ (k : Kept V). k.number < next) is under | inr was ↦ law.below m x f was ];
    parents = λ m x f at. elim (new_one m x f at) [ inl (folder, _, _) ↦ subst (λ k. k < next) folder folder_under | inr was ↦ law.parents m x f was ];
    begun = law.begun;
  }

-- a number that is reached is below the next one
pub reached_below : {V : Type 0} (find : Finds V) (root : V) (next : ℕ) → IsNumbered find next → (p : Names) (e : Kept V) → reached find root p ≡ Some e → e.number < next
reached_below {V} find root next law p e at = elim (last_name p) [
  | inl p_is ↦
      let is : root_of root ≡ e = same_Some (root_of root) e (sym (reached-root find root) ∙ (sym (ap (reached find root) p_is) ∙ at)) in
      subst (λ (k : Kept V). k.number < next) is law.begun
  | inr (up, x, p_is) ↦ let f = folder_of find root up x e (sym (ap (reached find root) p_is) ∙ at) in law.below f.0.number x e f.2
]

-- ---- what is reached where some entries are left out

pub part_walk : {V : Type 0} (find part : Finds V) → IsPart find part → (from from' : Option (Kept V)) → ((from' ≡ from) ⊎ (from' ≡ None)) → (p : Names) → (walk part from' p ≡ walk find from p) ⊎ (walk part from' p ≡ None)
part_walk find part is from from' start [] = start
part_walk find part is from from' (inr none) (x ∷ p) = inr (ap (λ o. walk part o (x ∷ p)) none ∙ walk-none part (x ∷ p))
part_walk find part is None from' (inl same) (x ∷ p) = inr (ap (λ o. walk part o (x ∷ p)) same ∙ walk-none part (x ∷ p))
part_walk find part is (Some e) from' (inl same) (x ∷ p) = elim (part_walk find part is (find e.number x) (part e.number x) (is e.number x) p) [
  | inl on ↦ inl (ap (λ o. walk part o (x ∷ p)) same ∙ on)
  | inr gone ↦ inr (ap (λ o. walk part o (x ∷ p)) same ∙ gone)
]

pub part_reached : {V : Type 0} (find part : Finds V) (root : V) → IsPart find part → (p : Names) → (reached part root p ≡ reached find root p) ⊎ (reached part root p ≡ None)
unfolding reached
part_reached find part root is p = part_walk find part is (Some (root_of root)) (Some (root_of root)) (inl refl) p

-- ---- what is reached after a change below one folder

pub prefix_cases : (s p : Names) → ((more : Names) × (p ≡ s ++ more)) ⊎ (is_prefix s p ≡ false)
prefix_cases s p = elim (cases_Bool (is_prefix s p)) [
  | inl h ↦ inl (is_prefix-more s p h)
  | inr h ↦ inr h
]

-- a path that does not begin so has a folder that does not
pub parent_far : (s up : Names) (x : Name) → is_prefix s (up ++ x ∷ []) ≡ false → is_prefix s up ≡ false
parent_far s up x far = false_from_ne_true (is_prefix s up) (λ begins. true≢false (sym (is_prefix-trans s up (up ++ x ∷ []) begins (is_prefix-append up (x ∷ []))) ∙ far))

pub by_name : (up : Names) (name : Name) (more : Names) → (up ++ name ∷ []) ++ more ≡ up ++ name ∷ more
by_name up name more = append_assoc up (name ∷ []) more

module _ {V : Type 0} (find : Finds V) (root : V) (next : ℕ) (law : IsNumbered find next) (up : Names) (u : Kept V) (at_up : reached find root up ≡ Some u) (name : Name) where
  -- an entry that is taken out leaves nothing at its path and below it
  pub without_below : (more : Names) → reached (without_found find u.number name) root ((up ++ name ∷ []) ++ more) ≡ None
  without_below more =
      let left = without_found find u.number name in
      ap (reached left root) (by_name up name more)
      ∙ (below find left root next law u.number name (without_others find u.number name) up u at_up refl more
      ∙ (ap (λ o. walk left o more) (without_here find u.number name) ∙ walk-none left more))

  pub without_elsewhere : (p : Names) → is_prefix (up ++ name ∷ []) p ≡ false → reached (without_found find u.number name) root p ≡ reached find root p
  without_elsewhere p far = elsewhere find (without_found find u.number name) root next law u.number name (without_others find u.number name) up u at_up refl p far

  module _ (e : Kept V) where
    pub with_elsewhere : (p : Names) → is_prefix (up ++ name ∷ []) p ≡ false → reached (with_found find u.number name e) root p ≡ reached find root p
    with_elsewhere p far = elsewhere find (with_found find u.number name e) root next law u.number name (with_others find u.number name e) up u at_up refl p far

    pub with_below : (more : Names) → reached (with_found find u.number name e) root ((up ++ name ∷ []) ++ more) ≡ walk (with_found find u.number name e) (Some e) more
    with_below more =
        let left = with_found find u.number name e in
        ap (reached left root) (by_name up name more)
        ∙ (below find left root next law u.number name (with_others find u.number name e) up u at_up refl more
        ∙ ap (λ o. walk left o more) (with_here find u.number name e))

    -- nothing is below an entry whose number is new
    pub with_nothing : e.number ≡ next → (x : Name) (more : Names) → walk (with_found find u.number name e) (Some e) (x ∷ more) ≡ None
    with_nothing new x more =
        let left = with_found find u.number name e in
        let folder : u.number < next = reached_below find root next law up u at_up in
        let same : left e.number x ≡ find e.number x = with_others find u.number name e e.number x (λ bad _. omega arith) in
        let none : find e.number x ≡ None = elim (cases_option (find e.number x)) [
          | inl h ↦ h
          | inr (f, h) ↦ let under = law.parents e.number x f h in absurd (omega arith)
        ] in
        ap (λ o. walk left o more) (same ∙ none) ∙ walk-none left more
