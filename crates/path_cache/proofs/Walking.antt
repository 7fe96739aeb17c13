-- Walks from entry to entry: no number is reached by two paths, and what a change of one key does to what is reached.
use Rattle.std.proofs.Common.{◌≡◌, ℕ, zero, suc, ◌+◌, ◌≤◌, false, ◌⊎◌, inl, inr, [], ◌∷◌, ◌++◌, length, Option, Some, None, refl, sym, ap, ◌∙◌, arith, append_assoc, length-append}
use Rattle.std.proofs.lemmas.Bool.{true≢false}
use Rattle.std.proofs.lemmas.Option.{none-some, same_Some}
use Rattle.paths.specs.Prefixes.{Name, Names, is_prefix}
use Rattle.paths.proofs.PrefixLemmas.{is_prefix-append, not_over_parent}
use Rattle.path_cache.specs.Walks.{Kept, Finds, step, walk, root_of, reached, IsNumbered}

pub cases_option : {A : Type 0} (o : Option A) → (o ≡ None) ⊎ ((x : A) × (o ≡ Some x))
cases_option None = inl refl
cases_option (Some x) = inr (x, refl)

-- a path is the root's, or goes by a last name
pub last_name : (p : Names) → (p ≡ []) ⊎ ((up : Names) × (x : Name) × (p ≡ up ++ x ∷ []))
last_name [] = inl refl
last_name (x ∷ p) = elim (last_name p) [
  | inl e ↦ inr ([], x, ap (λ (q : Names). x ∷ q) e)
  | inr (up, y, e) ↦ inr (x ∷ up, y, ap (λ (q : Names). x ∷ q) e)
]

-- ---- walks

module _ {V : Type 0} (find : Finds V) where
  pub walk-none : (p : Names) → walk find None p ≡ None
  walk-none [] = refl
  walk-none (x ∷ p) = walk-none p

  pub walk-append : (from : Option (Kept V)) (p q : Names) → walk find from (p ++ q) ≡ walk find (walk find from p) q
  walk-append from [] q = refl
  walk-append from (x ∷ p) q = walk-append (step find from x) p q

  step_some : (from : Option (Kept V)) (x : Name) (e : Kept V) → step find from x ≡ Some e → (f : Kept V) × (from ≡ Some f) × (find f.number x ≡ Some e)
  step_some None x e h = absurd (none-some e h)
  step_some (Some f) x e h = (f, refl, h)

  module _ (root : V) where
    pub reached-append : (p q : Names) → reached find root (p ++ q) ≡ walk find (reached find root p) q
    unfolding reached
    reached-append p q = walk-append (Some (root_of root)) p q

    pub reached-root : reached find root [] ≡ Some (root_of root)
    unfolding reached
    reached-root = refl

    -- what is reached is reached by the folder
    pub folder_of : (up : Names) (x : Name) (e : Kept V) → reached find root (up ++ x ∷ []) ≡ Some e → (f : Kept V) × (reached find root up ≡ Some f) × (find f.number x ≡ Some e)
    folder_of up x e h = step_some (reached find root up) x e (sym (reached-append up (x ∷ [])) ∙ h)

    module _ (next : ℕ) (law : IsNumbered find next) where
      -- only the root has number 0
      not_root : (up : Names) (x : Name) (e : Kept V) → reached find root (up ++ x ∷ []) ≡ Some e → 0 ≡ e.number → ⊥
      not_root up x e h zero_is = let f = folder_of up x e h in let positive = law.positive f.0.number x e f.2 in omega arith

      root_alone : (p : Names) (e : Kept V) → reached find root p ≡ Some e → 0 ≡ e.number → p ≡ []
      root_alone p e at zero_is = elim (last_name p) [
        | inl p_is ↦ p_is
        | inr (up, x, p_is) ↦ absurd (not_root up x e (sym (ap (reached find root) p_is) ∙ at) zero_is)
      ]

      root_number : (e : Kept V) → reached find root [] ≡ Some e → 0 ≡ e.number
      root_number e at = ap (λ (k : Kept V). k.number) (same_Some (root_of root) e (sym reached-root ∙ at))

      one_way : (n : ℕ) (p q : Names) (e f : Kept V) → length p ≤ n → reached find root p ≡ Some e → reached find root q ≡ Some f → e.number ≡ f.number → p ≡ q
      one_way n [] q e f short at_p at_q same = sym (root_alone q f at_q (root_number e at_p ∙ same))
      one_way zero (y ∷ p) q e f short at_p at_q same = absurd (omega arith)
      one_way (suc n) (y ∷ p) q e f short at_p at_q same = elim (last_name (y ∷ p)) [
        | inl p_is ↦ p_is ∙ sym (root_alone q f at_q (root_number e (sym (ap (reached find root) p_is) ∙ at_p) ∙ same))
        | inr (up, x, p_is) ↦ elim (last_name q) [
          | inl q_is ↦ root_alone (y ∷ p) e at_p (root_number f (sym (ap (reached find root) q_is) ∙ at_q) ∙ sym same) ∙ sym q_is
          | inr (above, z, q_is) ↦
              let one = folder_of up x e (sym (ap (reached find root) p_is) ∙ at_p) in
              let two = folder_of above z f (sym (ap (reached find root) q_is) ∙ at_q) in
              let key = law.apart one.0.number two.0.number x z e f one.2 two.2 same in
              let long : length (y ∷ p) ≡ length up + 1 = ap length p_is ∙ length-append up (x ∷ []) in
              let folders : up ≡ above = one_way n up above one.0 two.0 (omega arith) one.1 two.1 key.0 in
              p_is ∙ (ap (λ (u : Names). u ++ x ∷ []) folders ∙ (ap (λ (w : Name). above ++ w ∷ []) key.1 ∙ sym q_is))
        ]
      ]

      -- no number is reached by two paths
      pub only_way : (p q : Names) (e f : Kept V) → reached find root p ≡ Some e → reached find root q ≡ Some f → e.number ≡ f.number → p ≡ q
      only_way p q e f = one_way (length p) p q e f (omega arith)

-- ---- a change

-- a walk that meets no key that has changed
pub same_walk : {V : Type 0} (find find' : Finds V) (e : Kept V) (p : Names)
    → ((mid : Names) (x : Name) (more : Names) (f : Kept V) → p ≡ mid ++ x ∷ more → walk find (Some e) mid ≡ Some f → find' f.number x ≡ find f.number x)
    → walk find' (Some e) p ≡ walk find (Some e) p
same_walk find find' e [] same = refl
same_walk find find' e (x ∷ p) same =
    let here = same [] x p e refl refl in
    elim (cases_option (find e.number x)) [
      | inl none ↦ ap (λ o. walk find' o p) (here ∙ none) ∙ (walk-none find' p ∙ (sym (walk-none find p) ∙ ap (λ o. walk find o p) (sym none)))
      | inr (f, some) ↦
          ap (λ o. walk find' o p) (here ∙ some)
          ∙ (same_walk find find' f p (λ mid y more g whole at. same (x ∷ mid) y more g (ap (λ (q : Names). x ∷ q) whole) (ap (λ o. walk find o mid) some ∙ at))
          ∙ ap (λ o. walk find o p) (sym some))
    ]

-- what is found elsewhere than under one name in one folder is the same
abbrev pub SameBut : {V : Type 0} → Finds V → ℕ → Name → Finds V → Type 0
SameBut old n name new = (m : ℕ) (other : Name) → (n ≡ m → name ≡ other → ⊥) → new m other ≡ old m other

module _ {V : Type 0} (find find' : Finds V) (root : V) (next : ℕ) (law : IsNumbered find next) (n : ℕ) (name : Name) (same : SameBut find n name find') where
  -- the folder of that number, and its path
  module _ (up : Names) (u : Kept V) (at_up : reached find root up ≡ Some u) (number : u.number ≡ n) where
    pub elsewhere : (p : Names) → is_prefix (up ++ name ∷ []) p ≡ false → reached find' root p ≡ reached find root p
    unfolding reached
    elsewhere p far = same_walk find find' (root_of root) p (λ mid x more f whole at. same f.number x (λ folder word.
        let ways : up ≡ mid = only_way find root next law up mid u f at_up at (number ∙ folder) in
        let path : p ≡ (up ++ name ∷ []) ++ more = whole ∙ (ap (λ (q : Names). q ++ x ∷ more) (sym ways) ∙ (ap (λ (w : Name). up ++ w ∷ more) (sym word) ∙ sym (append_assoc up (name ∷ []) more))) in
        true≢false (sym (is_prefix-append (up ++ name ∷ []) more) ∙ (ap (is_prefix (up ++ name ∷ [])) (sym path) ∙ far))))

    pub folder_stays : reached find' root up ≡ Some u
    folder_stays = elsewhere up (not_over_parent up name) ∙ at_up

    pub below : (more : Names) → reached find' root (up ++ name ∷ more) ≡ walk find' (find' n name) more
    below more =
        reached-append find' root up (name ∷ more)
        ∙ (ap (λ o. walk find' o (name ∷ more)) folder_stays ∙ ap (λ k. walk find' (find' k name) more) number)
