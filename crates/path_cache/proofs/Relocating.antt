-- What is reached, path by path, after an entry was taken out, put anew or moved.
use Rattle.std.proofs.Common.{◌≡◌, ℕ, ◌<◌, cond, inl, inr, [], ◌∷◌, ◌++◌, length, drop, Some, None, sym, ap, ◌∙◌, arith, append-nil, length-append}
use Rattle.std.proofs.lemmas.Bool.{cond-true, cond-false, true≢false}
use Rattle.std.proofs.lemmas.Option.{none-some}
use Rattle.paths.specs.Prefixes.{Name, Names, is_prefix}
use Rattle.paths.proofs.PrefixLemmas.{is_prefix-append, is_prefix-same, is_prefix-long, not_over_parent, drop-append}
use Rattle.path_cache.specs.Walks.{Kept, Finds, walk, reached, with_found, without_found, IsNumbered}
use Rattle.path_cache.specs.Cache.{with_value, without_all, relocated, AreApart}
use Rattle.path_cache.proofs.Walking.{only_way, reached-append, same_walk}
use Rattle.path_cache.proofs.Changing.{IsPart, prefix_cases, parent_far, part_numbered, with_numbered, without_here, without_cases, without_others, with_others, without_below, without_elsewhere, with_below, with_elsewhere, with_nothing}

-- the two cases of a path that may begin so
begins : {A : Type 0} (path p more : Names) (x y : A) → p ≡ path ++ more → cond (is_prefix path p) x y ≡ x
begins path p more x y whole = cond-true (is_prefix path p) x y (ap (is_prefix path) whole ∙ is_prefix-append path more)

ends_here : {A : Type 0} (path p : Names) (x y : A) → p ≡ path ++ [] → cond (is_prefix p path) x y ≡ x
ends_here path p x y whole =
    let same : path ≡ p = sym (append-nil path) ∙ sym whole in
    cond-true (is_prefix p path) x y (ap (is_prefix p) same ∙ is_prefix-same p)

goes_on : {A : Type 0} (path p : Names) (y : Name) (more : Names) (a b : A) → p ≡ path ++ y ∷ more → cond (is_prefix p path) a b ≡ b
goes_on path p y more a b whole =
    let long : length p ≡ length (path ++ y ∷ more) = ap length whole in
    cond-false (is_prefix p path) a b (is_prefix-long p path (omega (arith, long, length-append path (y ∷ more))))

module _ {V : Type 0} (find : Finds V) (root : V) (next : ℕ) (law : IsNumbered find next) (up : Names) (u : Kept V) (at_up : reached find root up ≡ Some u) (name : Name) where
  pub reached-without : (p : Names) → reached (without_found find u.number name) root p ≡ without_all (reached find root) (up ++ name ∷ []) p
  reached-without p = elim (prefix_cases (up ++ name ∷ []) p) [
    | inl (more, whole) ↦
        ap (reached (without_found find u.number name) root) whole
        ∙ (without_below find root next law up u at_up name more ∙ sym (begins (up ++ name ∷ []) p more None (reached find root p) whole))
    | inr far ↦ without_elsewhere find root next law up u at_up name p far ∙ sym (cond-false (is_prefix (up ++ name ∷ []) p) None (reached find root p) far)
  ]

  -- an entry with a new number
  pub reached-with_new : (e : Kept V) → e.number ≡ next → (p : Names) → reached (with_found find u.number name e) root p ≡ with_value (reached find root) (up ++ name ∷ []) e p
  reached-with_new e new p = elim (prefix_cases (up ++ name ∷ []) p) [
    | inl ([], whole) ↦
        ap (reached (with_found find u.number name e) root) whole
        ∙ (with_below find root next law up u at_up name e []
        ∙ (sym (ends_here (up ++ name ∷ []) p (Some e) None whole)
        ∙ sym (begins (up ++ name ∷ []) p [] (cond (is_prefix p (up ++ name ∷ [])) (Some e) None) (reached find root p) whole)))
    | inl (y ∷ more, whole) ↦
        ap (reached (with_found find u.number name e) root) whole
        ∙ (with_below find root next law up u at_up name e (y ∷ more)
        ∙ (with_nothing find root next law up u at_up name e new y more
        ∙ (sym (goes_on (up ++ name ∷ []) p y more (Some e) None whole)
        ∙ sym (begins (up ++ name ∷ []) p (y ∷ more) (cond (is_prefix p (up ++ name ∷ [])) (Some e) None) (reached find root p) whole))))
    | inr far ↦
        with_elsewhere find root next law up u at_up name e p far
        ∙ sym (cond-false (is_prefix (up ++ name ∷ []) p) (cond (is_prefix p (up ++ name ∷ [])) (Some e) None) (reached find root p) far)
  ]

-- ---- an entry that moves

-- what is under neither name
abbrev pub without_both : {V : Type 0} → Finds V → ℕ → Name → ℕ → Name → Finds V
without_both find n name m other = without_found (without_found find n name) m other

module _ {V : Type 0} (find : Finds V) (next : ℕ) (law : IsNumbered find next) (n : ℕ) (name : Name) (m : ℕ) (other : Name) where
  part_both : IsPart find (without_both find n name m other)
  part_both k x = elim (without_cases (without_found find n name) m other k x) [
    | inl same ↦ elim (without_cases find n name k x) [ inl was ↦ inl (same ∙ was) | inr gone ↦ inr (same ∙ gone) ]
    | inr gone ↦ inr gone
  ]

  pub both_numbered : IsNumbered (without_both find n name m other) next
  both_numbered = part_numbered find (without_both find n name m other) next part_both law

  -- no other entry has the number of the one that was taken out
  its_own : (e : Kept V) → find n name ≡ Some e → (k : ℕ) (x : Name) (f : Kept V) → without_both find n name m other k x ≡ Some f → f.number ≡ e.number → ⊥
  its_own e at k x f found same =
      let once : without_found find n name k x ≡ Some f = elim (without_cases (without_found find n name) m other k x) [ inl was ↦ sym was ∙ found | inr gone ↦ absurd (none-some f (sym gone ∙ found)) ] in
      let was : find k x ≡ Some f = elim (without_cases find n name k x) [ inl was ↦ sym was ∙ once | inr gone ↦ absurd (none-some f (sym gone ∙ once)) ] in
      let key = law.apart k n x name f e was at same in
      none-some f (sym (ap (λ i. without_found find n name i x) key.0 ∙ (ap (without_found find n name n) key.1 ∙ without_here find n name)) ∙ once)

  pub moved_numbered : (e : Kept V) → find n name ≡ Some e → m < next → IsNumbered (with_found (without_both find n name m other) m other e) next
  moved_numbered e at under =
      with_numbered (without_both find n name m other) next both_numbered m other e (its_own e at) (law.positive n name e at) (law.below n name e at) under

module _ {V : Type 0} (find : Finds V) (root : V) (next : ℕ) (law : IsNumbered find next) (up : Names) (u : Kept V) (at_up : reached find root up ≡ Some u) (name : Name)
    (above : Names) (a : Kept V) (at_above : reached find root above ≡ Some a) (other : Name) (apart : AreApart (up ++ name ∷ []) (above ++ other ∷ [])) where
  above_stays : reached (without_found find u.number name) root above ≡ Some a
  above_stays = without_elsewhere find root next law up u at_up name above (parent_far (up ++ name ∷ []) above other apart.not_above) ∙ at_above

  once_numbered : IsNumbered (without_found find u.number name) next
  once_numbered = part_numbered find (without_found find u.number name) next (without_cases find u.number name) law

  pub reached-without_both : (p : Names) → reached (without_both find u.number name a.number other) root p ≡ without_all (without_all (reached find root) (up ++ name ∷ [])) (above ++ other ∷ []) p
  reached-without_both p =
      reached-without (without_found find u.number name) root next once_numbered above a above_stays other p
      ∙ ap (λ o. cond (is_prefix (above ++ other ∷ []) p) None o) (reached-without find root next law up u at_up name p)

  above_stays_still : reached (without_both find u.number name a.number other) root above ≡ Some a
  above_stays_still = without_elsewhere (without_found find u.number name) root next once_numbered above a above_stays other above (not_over_parent above other) ∙ above_stays

  module _ (e : Kept V) (at : find u.number name ≡ Some e) where
    pub moved_reached : reached find root (up ++ name ∷ []) ≡ Some e
    moved_reached = reached-append find root up (name ∷ []) ∙ (ap (λ o. walk find o (name ∷ [])) at_up ∙ at)

    -- all below the entry is found as before
    follows : (more : Names) → walk (with_found (without_both find u.number name a.number other) a.number other e) (Some e) more ≡ walk find (Some e) more
    follows more = same_walk find (with_found (without_both find u.number name a.number other) a.number other e) e more (λ mid x rest f whole on.
        let path = (up ++ name ∷ []) ++ mid in
        let at_f : reached find root path ≡ Some f = reached-append find root (up ++ name ∷ []) mid ∙ (ap (λ o. walk find o mid) moved_reached ∙ on) in
        let not_to : a.number ≡ f.number → other ≡ x → ⊥ = λ folder _.
        let ways : above ≡ path = only_way find root next law above path a f at_above at_f folder in
        true≢false (sym (is_prefix-append (up ++ name ∷ []) mid) ∙ (ap (is_prefix (up ++ name ∷ [])) (sym ways) ∙ parent_far (up ++ name ∷ []) above other apart.not_above)) in
        let not_from : u.number ≡ f.number → name ≡ x → ⊥ = λ folder _.
        let ways : up ≡ path = only_way find root next law up path u f at_up at_f folder in
        true≢false (sym (is_prefix-append (up ++ name ∷ []) mid) ∙ (ap (is_prefix (up ++ name ∷ [])) (sym ways) ∙ not_over_parent up name)) in
        with_others (without_both find u.number name a.number other) a.number other e f.number x not_to
        ∙ (without_others (without_found find u.number name) a.number other f.number x not_to
        ∙ without_others find u.number name f.number x not_from))

    pub reached-moved : (p : Names) → reached (with_found (without_both find u.number name a.number other) a.number other e) root p ≡ relocated (reached find root) (up ++ name ∷ []) (above ++ other ∷ []) p
    reached-moved p =
        let both = without_both find u.number name a.number other in
        let numbered = both_numbered find next law u.number name a.number other in
        let s = up ++ name ∷ [] in
        let t = above ++ other ∷ [] in
        elim (prefix_cases t p) [
          | inl (more, whole) ↦
              ap (reached (with_found both a.number other e) root) whole
              ∙ (with_below both root next numbered above a above_stays_still other e more
              ∙ (follows more
              ∙ (ap (λ o. walk find o more) (sym moved_reached)
              ∙ (sym (reached-append find root s more)
              ∙ (ap (λ (q : Names). reached find root (s ++ q)) (sym (ap (drop (length t)) whole ∙ drop-append t more))
              ∙ sym (begins t p more (reached find root (s ++ drop (length t) p)) (cond (is_prefix s p) None (reached find root p)) whole))))))
          | inr far ↦
              with_elsewhere both root next numbered above a above_stays_still other e p far
              ∙ (reached-without_both p
              ∙ (cond-false (is_prefix t p) None (without_all (reached find root) s p) far
              ∙ sym (cond-false (is_prefix t p) (reached find root (s ++ drop (length t) p)) (cond (is_prefix s p) None (reached find root p)) far)))
        ]
