-- The prefixes of a path.
use Rattle.std.proofs.Common.{ℕ, zero, suc, ◌≡◌, ◌≢◌, ◌≤◌, true, List, [], ◌∷◌, ◌++◌, Contains, get_or, length, take, sym, ap, ◌∙◌, subst, ◌⊎◌, inl, inr, refl, arith}
use Rattle.std.proofs.lemmas.Bool.{and_parts, false≢true}
use Rattle.std.proofs.lemmas.List.Elements.{Contains-append_left, Contains-push, Contains-push_cases}
use Rattle.std.proofs.lemmas.List.{take_all}
use Rattle.std.proofs.Math.Seq.{take-suc}
use Rattle.paths.specs.Prefixes.{Name, Names, is_name, is_prefix, prefixes}
use Rattle.paths.proofs.PrefixLemmas.{is_name-true, is_prefix-append, is_prefix-same, is_prefix-trans, prefixes-push}
use Rattle.holds.specs.Conflicts.{ArePrefixes, IsSomePrefix}

-- a prefix of a longer path is a prefix of the shorter one, or the whole longer path
push_cases : (q p : Names) (name : Name) → is_prefix q (p ++ name ∷ []) ≡ true → (is_prefix q p ≡ true) ⊎ (q ≡ p ++ name ∷ [])
push_cases [] p name h = inl refl
push_cases (x ∷ []) [] name h = inr (ap (λ (n : Name). n ∷ []) (is_name-true x name (and_parts (is_name x name) true h).0))
push_cases (x ∷ y ∷ q) [] name h = absurd (false≢true (and_parts (is_name x name) (is_prefix (y ∷ q) []) h).1)
push_cases (x ∷ q) (y ∷ p) name h =
    let parts = and_parts (is_name x y) (is_prefix q (p ++ name ∷ [])) h in
    elim (push_cases q p name parts.1) [
      | inl shorter ↦ inl (rw (parts.0, shorter) refl)
      | inr whole ↦ inr (ap (λ (n : Name). n ∷ q) (is_name-true x y parts.0) ∙ ap (λ (r : Names). y ∷ r) whole)
    ]

not_empty : (p : Names) (name : Name) → p ++ name ∷ [] ≢ []
not_empty [] name e = cc
not_empty (x ∷ p) name e = cc

none_of : (prefix : Names) → IsSomePrefix prefix [] → ⊥
none_of [] h = h.some refl
none_of (x ∷ prefix) h = false≢true h.begins

prefixes_none : ArePrefixes [] []
prefixes_none = record {
  all = λ prefix h. absurd (none_of prefix h);
  only = λ prefix h. absurd (omega (arith, h.1));
}

prefixes_more : (ps : List Names) (p : Names) (name : Name) → ArePrefixes ps p → ArePrefixes (ps ++ (p ++ name ∷ []) ∷ []) (p ++ name ∷ [])
prefixes_more ps p name are = record {
  all = λ prefix h. elim (push_cases prefix p name h.begins) [
    | inl shorter ↦ Contains-append_left ps ((p ++ name ∷ []) ∷ []) prefix (are.all prefix (record { some = h.some; begins = shorter }))
    | inr whole ↦ subst (λ (q : Names). Contains (ps ++ (p ++ name ∷ []) ∷ []) q) (sym whole) (Contains-push ps (p ++ name ∷ []))
  ];
  only = λ prefix h. elim (Contains-push_cases ps (p ++ name ∷ []) prefix h) [
    | inl before ↦ let it = are.only prefix before in record { some = it.some; begins = is_prefix-trans prefix p (p ++ name ∷ []) it.begins (is_prefix-append p (name ∷ [])) }
    | inr last ↦ record {
      some = λ e. not_empty p name (last ∙ e);
      begins = subst (λ (q : Names). is_prefix q (p ++ name ∷ []) ≡ true) last (is_prefix-same (p ++ name ∷ []));
    }
  ];
}

prefixes_up : (path : Names) (i : ℕ) → i ≤ length path → ArePrefixes (prefixes (take i path)) (take i path)
prefixes_up path zero within = prefixes_none
prefixes_up path (suc i) within =
    let name : Name = get_or path i [] in
    let on = take-suc path i [] (omega (arith, within)) in
    rw (on, prefixes-push (take i path) name) (prefixes_more (prefixes (take i path)) (take i path) name (prefixes_up path i (omega (arith, within))))

-- the prefixes of a path are its nonempty prefixes
pub prefixes_are : (path : Names) → ArePrefixes (prefixes path) path
prefixes_are path = subst (λ (p : Names). ArePrefixes (prefixes p) p) (take_all (length path) path (omega arith)) (prefixes_up path (length path) (omega arith))
