-- The results of an exchange of two names: two nodes change places, or one moves, or none does.
use Rattle.std.proofs.Common.{ℕ, ◌≡◌, if◌then◌else◌, true, [], ◌∷◌, ◌++◌, length, drop, reverse, refl, sym, ap, ◌∙◌, subst, inl, inr}
use Rattle.std.proofs.lemmas.Bool.{cases_Bool, cond-true, cond-false}
use Rattle.std.proofs.lemmas.List.{reverse-append}
use Rattle.paths.specs.Prefixes.{Name, Names, is_prefix}
use Rattle.paths.proofs.PrefixLemmas.{is_prefix-more, is_prefix-trans, is_prefix-append, drop-append}
use Rattle.tree.specs.Places.{Lookup, with_node, IsNamed, IsFree, IsPathOf, Climbs, IsTree}
use Rattle.tree.specs.Moves.{Where, at_path, cut, Stands, Changes, CanExchange, Exchanges, IsMovable, after_exchange, moved_node, stays}
use Rattle.tree.proofs.LookupLemmas.{with_other}
use Rattle.tree.proofs.Climbing.{root_unnamed, named_at, path_once, path_same, path_under, reaches_split}
use Rattle.tree.proofs.Moving.{after_shift, Changes-shift}
use Rattle.tree.proofs.Transfers.{below_prefix}
use Rattle.tree.proofs.Exchanging.{CanSwap, Changes-swap, differ, swapped, swap_other}

-- the same exchange with the names swapped
pub other_way : (at : Lookup) (parent : ℕ) (name : Name) (new_parent : ℕ) (new_name : Name) → CanExchange at parent name new_parent new_name → CanExchange at new_parent new_name parent name
other_way at parent name new_parent new_name can = record {
  above = can.new_above;
  leads = can.new_leads;
  new_above = can.above;
  new_leads = can.leads;
  apart = record { not_above = λ e. sym (can.apart.not_below e); not_below = λ e. sym (can.apart.not_above e) };
}

-- no node is at a free name or below it
none_below : (old : Lookup) → IsTree old → (parent : ℕ) (up : Names) (name : Name) → IsPathOf old parent up → IsFree old parent name → (m : ℕ) (path : Names) → IsPathOf old m path → is_prefix (up ++ name ∷ []) path ≡ true → ⊥
none_below old tree parent up name h free m path st prefix =
    let q = up ++ name ∷ [] in
    let more = is_prefix-more q path prefix in
    let whole : reverse path ≡ reverse more.0 ++ reverse q = ap (λ (r : Names). reverse r) more.1 ∙ reverse-append q more.0 in
    let split = reaches_split old 1 (reverse more.0) (reverse q) m (subst (λ (r : Names). Climbs old m r) whole st) in
    free split.0 (named_at old tree split.0 parent up name h split.2)

-- the same prefix again
again : (p r : Names) → is_prefix p r ≡ true → p ++ drop (length p) r ≡ r
again p r prefix =
    let more = is_prefix-more p r prefix in
    ap (λ (s : Names). p ++ s) (ap (λ (s : Names). drop (length p) s) more.1 ∙ drop-append p more.0) ∙ sym more.1

same_exchange : (p : Names) (w : Where) → after_exchange p p w ≡ w
same_exchange p cut = refl
same_exchange p (at_path r) = elim (cases_Bool (is_prefix p r)) [
  | inl prefix ↦ cond-true (is_prefix p r) (at_path (p ++ drop (length p) r)) (if is_prefix p r then at_path (p ++ drop (length p) r) else at_path r) prefix ∙ ap at_path (again p r prefix)
  | inr none ↦ cond-false (is_prefix p r) (at_path (p ++ drop (length p) r)) (if is_prefix p r then at_path (p ++ drop (length p) r) else at_path r) none ∙ cond-false (is_prefix p r) (at_path (p ++ drop (length p) r)) (at_path r) none
]

-- the same change, given by another function that agrees on all places that nodes have
Changes-as : (f g : Where → Where) (old new : Lookup) → ((m : ℕ) (w : Where) → Stands old m w → f w ≡ g w) → Changes f old new → Changes g old new
Changes-as f g old new same c = record {
  moved = λ m w st. subst (λ (v : Where). Stands new m v) (same m w st) (c.moved m w st);
  none_comes = c.none_comes;
  kept = c.kept;
}

Changes-none : (old : Lookup) → Changes (λ w. w) old old
Changes-none old = record { moved = λ m w st. st; none_comes = λ m none. none; kept = λ m x alive. (x, alive, stays refl) }

module _ (old : Lookup) (tree : IsTree old) (parent : ℕ) (name : Name) (new_parent : ℕ) (new_name : Name) (can : CanExchange old parent name new_parent new_name) where
  abbrev path : Names
  path = can.above ++ name ∷ []

  abbrev new_path : Names
  new_path = can.new_above ++ new_name ∷ []

  pub path_of : (n : ℕ) → IsNamed old n parent name → IsPathOf old n path
  path_of n named = path_under old n parent can.above name named can.leads

  pub new_path_of : (n : ℕ) → IsNamed old n new_parent new_name → IsPathOf old n new_path
  new_path_of n named = path_under old n new_parent can.new_above new_name named can.new_leads

  pub name_not_root : (n p : ℕ) (called : Name) → IsNamed old n p called → n ≡ 1 → ⊥
  name_not_root n p called named e = root_unnamed old tree.rooted p called (subst (λ k. IsNamed old k p called) e named)

  abbrev pub can_swap : (a b : ℕ) → IsNamed old a parent name → IsNamed old b new_parent new_name → (a ≡ b → ⊥) → CanSwap old a parent name b new_parent new_name
  can_swap a b one two other =
      let alike : path ≡ new_path → ⊥ = λ e. other (path_once old tree path a b (path_of a one) (subst (λ (r : Names). IsPathOf old b r) (sym e) (new_path_of b two))) in
      record {
        one = one;
        two = two;
        not_below = λ below. alike (can.apart.not_above (below_prefix old tree a b path new_path (path_of a one) (new_path_of b two) below));
        not_above = λ below. alike (can.apart.not_below (below_prefix old tree b a new_path path (new_path_of b two) (path_of a one) below));
      }

  -- a node at only one of the names may move to the other
  pub movable : (n : ℕ) → IsNamed old n parent name → IsFree old new_parent new_name → IsMovable old n new_parent new_name
  movable n named free = record {
    tree = tree;
    not_root = name_not_root n parent name named;
    leads = record { names = reverse path; climb = path_of n named };
    above = record { names = reverse can.new_above; climb = can.new_leads };
    not_below = λ below.
        let prefix : is_prefix path can.new_above ≡ true = below_prefix old tree n new_parent path can.new_above (path_of n named) can.new_leads below in
        let alike = can.apart.not_above (is_prefix-trans path can.new_above new_path prefix (is_prefix-append can.new_above (new_name ∷ []))) in
        free n (named_at old tree n new_parent can.new_above new_name can.new_leads (subst (λ (r : Names). IsPathOf old n r) alike (path_of n named)));
    free = free;
  }

module _ (old : Lookup) (tree : IsTree old) (parent : ℕ) (name : Name) (new_parent : ℕ) (new_name : Name) (can : CanExchange old parent name new_parent new_name) where
  abbrev from_path : Names
  from_path = can.above ++ name ∷ []

  abbrev to_path : Names
  to_path = can.new_above ++ new_name ∷ []

  at_first : (n : ℕ) → IsNamed old n parent name → IsPathOf old n from_path
  at_first n named = path_under old n parent can.above name named can.leads

  at_second : (n : ℕ) → IsNamed old n new_parent new_name → IsPathOf old n to_path
  at_second n named = path_under old n new_parent can.new_above new_name named can.new_leads

  abbrev with_change : (new : Lookup) → Changes (after_exchange from_path to_path) old new → ((n : ℕ) → (IsNamed old n parent name → ⊥) → (IsNamed old n new_parent new_name → ⊥) → new n ≡ old n) → Exchanges old new parent name new_parent new_name
  with_change new changes others = record { above = can.above; leads = can.leads; new_above = can.new_above; new_leads = can.new_leads; changes = changes; others = others }

  pub Exchanges-swap : (a b : ℕ) (swap : CanSwap old a parent name b new_parent new_name) → Exchanges old (swapped old tree a parent name b new_parent new_name swap) parent name new_parent new_name
  Exchanges-swap a b swap = with_change (swapped old tree a parent name b new_parent new_name swap)
      (Changes-swap old tree a parent name b new_parent new_name swap from_path to_path (at_first a swap.one) (at_second b swap.two))
      (λ n one two. swap_other old a b (moved_node swap.one.0 new_parent new_name) (moved_node swap.two.0 parent name) (differ old tree a parent name b new_parent new_name swap) n
      (λ e. one (subst (λ k. IsNamed old k parent name) e swap.one)) (λ e. two (subst (λ k. IsNamed old k new_parent new_name) e swap.two)))

  first_as : IsFree old new_parent new_name → (m : ℕ) (w : Where) → Stands old m w → after_shift from_path to_path w ≡ after_exchange from_path to_path w
  first_as free m cut st = refl
  first_as free m (at_path r) st = elim (cases_Bool (is_prefix from_path r)) [
    | inl prefix ↦ rw prefix refl
    | inr none ↦ elim (cases_Bool (is_prefix to_path r)) [
      | inl prefix ↦ absurd (none_below old tree new_parent can.new_above new_name can.new_leads free m r st prefix)
      | inr none' ↦ rw (none, none') refl
    ]
  ]

  -- only the first name has a node
  pub Exchanges-first : (n : ℕ) (named : IsNamed old n parent name) → IsFree old new_parent new_name → Exchanges old (with_node old n (moved_node named.0 new_parent new_name)) parent name new_parent new_name
  Exchanges-first n named free = with_change (with_node old n (moved_node named.0 new_parent new_name))
      (Changes-as (after_shift from_path to_path) (after_exchange from_path to_path) old (with_node old n (moved_node named.0 new_parent new_name)) (first_as free)
      (Changes-shift old n new_parent new_name named.0 named.1 (movable old tree parent name new_parent new_name can n named free) from_path can.new_above (at_first n named) can.new_leads))
      (λ m one two. with_other old n (moved_node named.0 new_parent new_name) m (λ e. one (subst (λ k. IsNamed old k parent name) e named)))

  second_as : IsFree old parent name → (m : ℕ) (w : Where) → Stands old m w → after_shift to_path from_path w ≡ after_exchange from_path to_path w
  second_as free m cut st = refl
  second_as free m (at_path r) st = elim (cases_Bool (is_prefix from_path r)) [
    | inl prefix ↦ absurd (none_below old tree parent can.above name can.leads free m r st prefix)
    | inr none ↦ elim (cases_Bool (is_prefix to_path r)) [
      | inl prefix ↦ rw (none, prefix) refl
      | inr none' ↦ rw (none, none') refl
    ]
  ]

  -- only the second name has a node
  pub Exchanges-second : (n : ℕ) (named : IsNamed old n new_parent new_name) → IsFree old parent name → Exchanges old (with_node old n (moved_node named.0 parent name)) parent name new_parent new_name
  Exchanges-second n named free = with_change (with_node old n (moved_node named.0 parent name))
      (Changes-as (after_shift to_path from_path) (after_exchange from_path to_path) old (with_node old n (moved_node named.0 parent name)) (second_as free)
      (Changes-shift old n parent name named.0 named.1 (movable old tree new_parent new_name parent name (other_way old parent name new_parent new_name can) n named free) to_path can.above (at_second n named) can.leads))
      (λ m one two. with_other old n (moved_node named.0 parent name) m (λ e. two (subst (λ k. IsNamed old k new_parent new_name) e named)))

  none_as : IsFree old parent name → IsFree old new_parent new_name → (m : ℕ) (w : Where) → Stands old m w → w ≡ after_exchange from_path to_path w
  none_as free free' m cut st = refl
  none_as free free' m (at_path r) st = elim (cases_Bool (is_prefix from_path r)) [
    | inl prefix ↦ absurd (none_below old tree parent can.above name can.leads free m r st prefix)
    | inr none ↦ elim (cases_Bool (is_prefix to_path r)) [
      | inl prefix ↦ absurd (none_below old tree new_parent can.new_above new_name can.new_leads free' m r st prefix)
      | inr none' ↦ rw (none, none') refl
    ]
  ]

  -- neither name has a node
  pub Exchanges-none : IsFree old parent name → IsFree old new_parent new_name → Exchanges old old parent name new_parent new_name
  Exchanges-none free free' = with_change old (Changes-as (λ w. w) (after_exchange from_path to_path) old old (none_as free free') (Changes-none old)) (λ m one two. refl)

  -- both names are the same
  pub Exchanges-same : (n : ℕ) → IsNamed old n parent name → IsNamed old n new_parent new_name → Exchanges old old parent name new_parent new_name
  Exchanges-same n one two =
      let alike : from_path ≡ to_path = path_same old tree.rooted from_path to_path n (at_first n one) (at_second n two) in
      let same : (w : Where) → w ≡ after_exchange from_path to_path w = λ w. subst (λ (q : Names). w ≡ after_exchange from_path q w) alike (sym (same_exchange from_path w)) in
      with_change old (Changes-as (λ w. w) (after_exchange from_path to_path) old old (λ m w st. same w) (Changes-none old)) (λ m one' two'. refl)
