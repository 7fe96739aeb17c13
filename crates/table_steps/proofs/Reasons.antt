-- Which nodes have a reason after a node was dropped or changed, and what remains after a sweep.
use Rattle.std.proofs.Common.{ℕ, zero, suc, ◌≡◌, ◌≢◌, Bool, true, List, [], ◌∷◌, ◌++◌, Contains, Option, Some, None, MatchOption, refl, sym, ap, ◌∙◌, subst, ◌⊎◌, inl, inr, arith}
use Rattle.std.proofs.lemmas.Bool.{cases_eq}
use Rattle.std.proofs.lemmas.List.Elements.{Contains-append_cases}
use Rattle.std.proofs.lemmas.Option.{none-some, same_Some}
use Rattle.tree.specs.declared.nodes.Key.{Key}
use Rattle.tree.specs.declared.nodes.Node.{Node}
use Rattle.tree.specs.declared.nodes.Place.{Place}
use Rattle.tree.specs.declared.nodes.Place.TheVariants.{Root, Named, Cut}
use Rattle.tree.specs.Places.{Lookup, Nodes, with_node, without, IsNamed, HasChild, IsTree}
use Rattle.tree.proofs.LookupLemmas.{without_some, without_other, with_other, with_same, with_some, cases_option}
use Rattle.table_law.specs.Law.{HasReason, HaveReasons}
use Rattle.table_steps.specs.Swept.{IsNeedless, IsSwept}
use Rattle.tree.proofs.Climbing.{cut_unnamed}
use Rattle.table_steps.specs.Sweeping.{HaveReasonsAside, IsAmong, HaveReasonsBut, IsPruned, IsSameRest, listed, parent_in}

-- ---- dropping

-- a child of another parent remains
child_stays : (at : Lookup) (n c : ℕ) → ((name : List ℕ) → IsNamed at n c name → ⊥) → HasChild at c → HasChild (without at n) c
child_stays at n c other h =
    let ne : n ≡ h.0 → ⊥ = λ e. other h.1 (subst (λ k. IsNamed at k c h.1) (sym e) h.2) in
    (h.0, h.1, (h.2.0, without_other at n h.0 ne ∙ h.2.1, h.2.2))

-- a node that loses no child keeps its reason
pub stays_kept : (at : Lookup) (pinned : ℕ → Bool) (n c : ℕ) (x : Node) → ((name : List ℕ) → IsNamed at n c name → ⊥) → HasReason at pinned c x → HasReason (without at n) pinned c x
stays_kept at pinned n c x other (inl counted) = inl counted
stays_kept at pinned n c x other (inr (inl hidden)) = inr (inl hidden)
stays_kept at pinned n c x other (inr (inr (inl pin))) = inr (inr (inl pin))
stays_kept at pinned n c x other (inr (inr (inr child))) = inr (inr (inr (child_stays at n c other child)))

-- all but the dropped node's parent keep their reasons
pub HaveReasons-drop : (at : Lookup) (pinned : ℕ → Bool) (n : ℕ) (rest : List ℕ) (x : Node) (key : Key) → at n ≡ Some x → x.place ≡ Named key → HaveReasonsBut at pinned (n ∷ rest) → HaveReasonsBut (without at n) pinned (key.parent ∷ rest)
HaveReasons-drop at pinned n rest x key stood place reasons c y h not_root left =
    let was = without_some at n c y h in
    let other : (name : List ℕ) → IsNamed at n c name → ⊥ = λ name k.
    let e : Named (record { parent = c; name = name }) ≡ Named key = sym k.2 ∙ (ap (λ (w : Node). w.place) (same_Some k.0 x (sym k.1 ∙ stood)) ∙ place) in
    let same : record { parent = c; name = name } ≡ key = cc in
    left (inl (ap (λ (k : Key). k.parent) same)) in
    stays_kept at pinned n c y other (reasons c y was.1 not_root (λ among. elim among [ inl e ↦ was.0 (sym e) | inr later ↦ left (inr later) ]))

-- no node lost a child
pub HaveReasons-drop_cut : (at : Lookup) (pinned : ℕ → Bool) (n : ℕ) (rest : List ℕ) (x : Node) → at n ≡ Some x → x.place ≡ Cut → HaveReasonsBut at pinned (n ∷ rest) → HaveReasonsBut (without at n) pinned rest
HaveReasons-drop_cut at pinned n rest x stood place reasons c y h not_root left =
    let was = without_some at n c y h in
    let other : (name : List ℕ) → IsNamed at n c name → ⊥ = λ name k.
    let e : Named (record { parent = c; name = name }) ≡ Cut = sym k.2 ∙ (ap (λ (w : Node). w.place) (same_Some k.0 x (sym k.1 ∙ stood)) ∙ place) in cc in
    stays_kept at pinned n c y other (reasons c y was.1 not_root (λ among. elim among [ inl e ↦ was.0 (sym e) | inr later ↦ left later ]))

-- only one number may have lacked a reason, and it has one, or is the root, or is gone
pub HaveReasons-all : (at : Lookup) (pinned : ℕ → Bool) (n : ℕ) (rest : List ℕ) → ((x : Node) → at n ≡ Some x → n ≢ 1 → HasReason at pinned n x) → HaveReasonsBut at pinned (n ∷ rest) → HaveReasonsBut at pinned rest
HaveReasons-all at pinned n rest here reasons c x h not_root left = elim (cases_eq c n) [
  | inl e ↦ subst (λ k. HasReason at pinned k x) (sym e) (here x (ap at (sym e) ∙ h) (λ f. not_root (e ∙ f)))
  | inr ne ↦ reasons c x h not_root (λ among. elim among [ inl e ↦ ne e | inr later ↦ left later ])
]

-- more nodes may lack a reason
pub HaveReasons-more : (at : Lookup) (pinned : ℕ → Bool) (few more : List ℕ) → ((n : ℕ) → IsAmong n few → IsAmong n more) → HaveReasonsBut at pinned few → HaveReasonsBut at pinned more
HaveReasons-more at pinned few more grows reasons n x h not_root left = reasons n x h not_root (λ among. left (grows n among))

-- if none may lack a reason, each has one
pub HaveReasons-none : (at : Lookup) (pinned : ℕ → Bool) → HaveReasonsBut at pinned [] → HaveReasons at pinned
HaveReasons-none at pinned reasons n x h not_root = reasons n x h not_root (λ none. none)

pub HaveReasons-some : (at : Lookup) (pinned : ℕ → Bool) (but : List ℕ) → HaveReasons at pinned → HaveReasonsBut at pinned but
HaveReasons-some at pinned but reasons n x h not_root left = reasons n x h not_root

-- ---- writing and births

-- a child remains a child when a node is written with the same place
pub child_written : (at : Lookup) (n : ℕ) (x y : Node) → at n ≡ Some x → y.place ≡ x.place → (c : ℕ) → HasChild at c → HasChild (with_node at n y) c
child_written at n x y stood place c h = elim (cases_eq n h.0) [
  | inl e ↦
      let same : h.2.0 ≡ x = same_Some h.2.0 x (sym h.2.1 ∙ (ap at (sym e) ∙ stood)) in
      (h.0, h.1, (y, subst (λ k. with_node at n y k ≡ Some y) e (with_same at n y), place ∙ (ap (λ (w : Node). w.place) (sym same) ∙ h.2.2)))
  | inr ne ↦ (h.0, h.1, (h.2.0, with_other at n y h.0 ne ∙ h.2.1, h.2.2))
]

child_born : (at : Lookup) (n : ℕ) (y : Node) → at n ≡ None → (c : ℕ) → HasChild at c → HasChild (with_node at n y) c
child_born at n y fresh c h =
    let ne : n ≡ h.0 → ⊥ = λ e. none-some h.2.0 (sym fresh ∙ (ap at e ∙ h.2.1)) in
    (h.0, h.1, (h.2.0, with_other at n y h.0 ne ∙ h.2.1, h.2.2))

reason_moves : (at new : Lookup) (pinned : ℕ → Bool) (m : ℕ) (z : Node) → (HasChild at m → HasChild new m) → HasReason at pinned m z → HasReason new pinned m z
reason_moves at new pinned m z child (inl counted) = inl counted
reason_moves at new pinned m z child (inr (inl hidden)) = inr (inl hidden)
reason_moves at new pinned m z child (inr (inr (inl pin))) = inr (inr (inl pin))
reason_moves at new pinned m z child (inr (inr (inr h))) = inr (inr (inr (child h)))

-- all but the written node keep their reasons
pub HaveReasons-write : (at : Lookup) (pinned : ℕ → Bool) (n : ℕ) (x y : Node) (but : List ℕ) → at n ≡ Some x → y.place ≡ x.place → HaveReasonsBut at pinned but → HaveReasonsBut (with_node at n y) pinned (n ∷ but)
HaveReasons-write at pinned n x y but stood place reasons m z h not_root left = elim (with_some at n y m z h) [
  | inl (e, same) ↦ absurd (left (inl (sym e)))
  | inr (ne, was) ↦ reason_moves at (with_node at n y) pinned m z (child_written at n x y stood place m) (reasons m z was not_root (λ among. left (inr among)))
]

-- all but the new node keep their reasons
pub HaveReasons-born : (at : Lookup) (pinned : ℕ → Bool) (n : ℕ) (y : Node) (but : List ℕ) → at n ≡ None → HaveReasonsBut at pinned but → HaveReasonsBut (with_node at n y) pinned (n ∷ but)
HaveReasons-born at pinned n y but fresh reasons m z h not_root left = elim (with_some at n y m z h) [
  | inl (e, same) ↦ absurd (left (inl (sym e)))
  | inr (ne, was) ↦ reason_moves at (with_node at n y) pinned m z (child_born at n y fresh m) (reasons m z was not_root (λ among. left (inr among)))
]

-- ---- pins

-- more pins are more reasons
pub HaveReasons-pins : (at : Lookup) (old new : ℕ → Bool) (but : List ℕ) → ((m : ℕ) → old m ≡ true → new m ≡ true) → HaveReasonsBut at old but → HaveReasonsBut at new but
HaveReasons-pins at old new but more reasons n x h root left = elim (reasons n x h root left) [
  | inl counted ↦ inl counted
  | inr (inl hidden) ↦ inr (inl hidden)
  | inr (inr (inl pin)) ↦ inr (inr (inl (more n pin)))
  | inr (inr (inr child)) ↦ inr (inr (inr child))
]

pub reasons_kept : (at : Lookup) (old new : ℕ → Bool) → ((m : ℕ) → old m ≡ true → new m ≡ true) → HaveReasons at old → HaveReasons at new
reasons_kept at old new more reasons = HaveReasons-none at new (HaveReasons-pins at old new [] more (HaveReasons-some at old [] reasons))

-- if some pins are removed, the nodes that they pinned may lack a reason
pub HaveReasons-unpin : (at : Lookup) (old new : ℕ → Bool) (but more : List ℕ) → ((m : ℕ) → old m ≡ true → (new m ≡ true) ⊎ IsAmong m more) → ((m : ℕ) → IsAmong m but → IsAmong m more) → HaveReasonsBut at old but → HaveReasonsBut at new more
HaveReasons-unpin at old new but more gone grows reasons n x h root left = elim (reasons n x h root (λ among. left (grows n among))) [
  | inl counted ↦ inl counted
  | inr (inl hidden) ↦ inr (inl hidden)
  | inr (inr (inl pin)) ↦ elim (gone n pin) [ inl still ↦ inr (inr (inl still)) | inr among ↦ absurd (left among) ]
  | inr (inr (inr child)) ↦ inr (inr (inr child))
]

-- ---- sweeps

pub IsSwept-refl : (pinned : ℕ → Bool) (at : Lookup) → IsSwept pinned at at
IsSwept-refl pinned at = record { kept = λ n x h. h; gone = λ n x h none. absurd (none-some x (sym none ∙ h)) }

-- one more is dropped
pub IsSwept-drop : (pinned : ℕ → Bool) (at : Lookup) (n : ℕ) (x : Node) → at n ≡ Some x → IsNeedless at pinned n x → IsSwept pinned at (without at n)
IsSwept-drop pinned at n x stood needless =
    let fewer : (c : ℕ) → HasChild (without at n) c → HasChild at c = λ c h. (h.0, h.1, (h.2.0, (without_some at n h.0 h.2.0 h.2.1).1, h.2.2)) in
    record {
      kept = λ m y h. (without_some at n m y h).1;
      gone = λ m y h none. elim (cases_eq n m) [
        | inl e ↦
            let same : x ≡ y = same_Some x y (sym (subst (λ k. at k ≡ Some x) e stood) ∙ h) in
            subst (λ w. IsNeedless (without at n) pinned m w) same (subst (λ k. IsNeedless (without at n) pinned k x) e (record { not_root = needless.not_root; count = needless.count; unmarked = needless.unmarked; unkept = needless.unkept; childless = λ h'. needless.childless (fewer n h') }))
        | inr ne ↦ absurd (none-some y (sym none ∙ (without_other at n m ne ∙ h)))
      ];
    }

pub IsSwept-trans : (pinned : ℕ → Bool) (a b c : Lookup) → IsSwept pinned a b → IsSwept pinned b c → IsSwept pinned a c
IsSwept-trans pinned a b c first then = record {
  kept = λ n x h. first.kept n x (then.kept n x h);
  gone = λ n x h none. elim (cases_option (b n)) [
    | inl before ↦
        let was = first.gone n x h before in
        record { not_root = was.not_root; count = was.count; unmarked = was.unmarked; unkept = was.unkept; childless = λ k. was.childless (k.0, k.1, (k.2.0, then.kept k.0 k.2.0 k.2.1, k.2.2)) }
    | inr (y, stands) ↦
        let same : y ≡ x = same_Some y x (sym (first.kept n y stands) ∙ h) in
        subst (λ w. IsNeedless c pinned n w) same (then.gone n y stands none)
  ];
}

-- ---- one step of a sweep

module _ (at : Lookup) (pinned : ℕ → Bool) (number : ℕ) (rest : List ℕ) (x : Node) (stood : at number ≡ Some x) where
  pub IsPruned-needed : HasReason at pinned number x ⊎ (number ≡ 1) → IsPruned at pinned (number ∷ rest) → IsPruned at pinned rest
  IsPruned-needed reason pruned = record {
    tree = pruned.tree;
    reasons = HaveReasons-all at pinned number rest (λ y stands not_root. elim reason [
      | inl has ↦ subst (λ w. HasReason at pinned number w) (same_Some x y (sym stood ∙ stands)) has
      | inr root ↦ absurd (not_root root)
    ]) pruned.reasons;
  }

  pub reasons_after : (pl : Place) → x.place ≡ pl → IsNeedless at pinned number x → IsPruned at pinned (number ∷ rest) → MatchOption (parent_in pl) (HaveReasonsBut (without at number) pinned rest) (λ p. HaveReasonsBut (without at number) pinned (p ∷ rest))
  reasons_after Root is needless pruned = absurd (needless.not_root (pruned.tree.only_root number x stood is))
  reasons_after (Named key) is needless pruned = HaveReasons-drop at pinned number rest x key stood is pruned.reasons
  reasons_after Cut is needless pruned = HaveReasons-drop_cut at pinned number rest x stood is pruned.reasons

-- a number without a node needs no reason
pub IsPruned-gone : (at : Lookup) (pinned : ℕ → Bool) (number : ℕ) (rest : List ℕ) → at number ≡ None → IsPruned at pinned (number ∷ rest) → IsPruned at pinned rest
IsPruned-gone at pinned number rest none pruned = record {
  tree = pruned.tree;
  reasons = HaveReasons-all at pinned number rest (λ y stands not_root. absurd (none-some y (sym none ∙ stands))) pruned.reasons;
}

-- the node is dropped, and its parent may have lost its last reason
pub IsPruned-drop : (at new : Lookup) (pinned : ℕ → Bool) (number : ℕ) (rest : List ℕ) (x : Node) → at number ≡ Some x → new ≡ without at number → IsTree new → IsNeedless at pinned number x → IsPruned at pinned (number ∷ rest) → (o : Option ℕ) → o ≡ parent_in x.place
    → MatchOption o (IsPruned new pinned rest) (λ p. IsPruned new pinned (p ∷ rest))
IsPruned-drop at new pinned number rest x stood gone tree needless pruned None is =
    let after = reasons_after at pinned number rest x stood x.place refl needless pruned in
    let reasons = subst (λ o. MatchOption o (HaveReasonsBut (without at number) pinned rest) (λ p. HaveReasonsBut (without at number) pinned (p ∷ rest))) (sym is) after in
    record { tree = tree; reasons = subst (λ a. HaveReasonsBut a pinned rest) (sym gone) reasons }
IsPruned-drop at new pinned number rest x stood gone tree needless pruned (Some p) is =
    let after = reasons_after at pinned number rest x stood x.place refl needless pruned in
    let reasons = subst (λ o. MatchOption o (HaveReasonsBut (without at number) pinned rest) (λ p. HaveReasonsBut (without at number) pinned (p ∷ rest))) (sym is) after in
    record { tree = tree; reasons = subst (λ a. HaveReasonsBut a pinned (p ∷ rest)) (sym gone) reasons }

-- what does not change over two sweeps
pub IsSameRest-trans : (a b c : Nodes) → IsSameRest a b → IsSameRest b c → IsSameRest a c
IsSameRest-trans a b c first then = record {
  fewer = omega (arith, first.fewer, then.fewer);
  counts = then.counts ∙ first.counts;
  limit = then.limit ∙ first.limit;
  room = omega (arith, first.room, then.room);
}

-- this does not depend on the list of newly cut nodes
pub rest_taken : (a b c : Nodes) → c ≡ record b { newly_cut = c.newly_cut } → IsSameRest a b → IsSameRest a c
rest_taken a b c same rest = record {
  fewer = omega (arith, rest.fewer, ap (λ (t : Nodes). t.living) same);
  counts = ap (λ (t : Nodes). t.counts) same ∙ rest.counts;
  limit = ap (λ (t : Nodes). t.limit) same ∙ rest.limit;
  room = omega (arith, rest.room, ap (λ (t : Nodes). t.room) same);
}

-- ---- newly cut nodes, one after another

only_in : (m n : ℕ) → Contains (m ∷ []) n → m ≡ n
only_in m n (zero, within, e) = e
only_in m n (suc k, within, e) = absurd (omega (arith, within))

module _ (at : Lookup) (kept : ℕ → Bool) (but : Option ℕ) (cuts : List ℕ) (number : ℕ) (before : HaveReasonsAside at kept but (cuts ++ number ∷ [])) where
  -- another number is in the list only if it was before
  later : (n : ℕ) (x : Node) → (n ≡ number → ⊥) → (x.place ≡ Cut → Contains cuts n → ⊥) → x.place ≡ Cut → Contains (cuts ++ number ∷ []) n → ⊥
  later n x ne aside lost among = elim (Contains-append_cases cuts (number ∷ []) n among) [
    | inl earlier ↦ aside lost earlier
    | inr last ↦ ne (sym (only_in number n last))
  ]

  -- if the node with that number has a reason, or is not cut, it need not be in the list
  aside_less : ((x : Node) → at number ≡ Some x → number ≢ 1 → (x.place ≡ Cut → ⊥) ⊎ HasReason at kept number x) → HaveReasonsAside at kept but cuts
  aside_less here = record {
    reasons = λ n x h not_root left aside. elim (cases_eq n number) [
      | inl e ↦ elim (here x (ap at (sym e) ∙ h) (λ root. not_root (e ∙ root))) [
        | inl whole ↦ before.reasons n x h not_root left (λ lost among. whole lost)
        | inr reason ↦ subst (λ k. HasReason at kept k x) (sym e) reason
      ]
      | inr ne ↦ before.reasons n x h not_root left (later n x ne aside)
    ];
  }

  pub aside_none : at number ≡ None → HaveReasonsAside at kept but cuts
  aside_none none = aside_less (λ x stood not_root. absurd (none-some x (sym none ∙ stood)))

  module _ (x : Node) (stood : at number ≡ Some x) where
    pub aside_whole : (x.place ≡ Cut → ⊥) → HaveReasonsAside at kept but cuts
    aside_whole whole = aside_less (λ y h not_root. inl (λ lost. whole (ap (λ (w : Node). w.place) (same_Some x y (sym stood ∙ h)) ∙ lost)))

    pub aside_needed : HasReason at kept number x ⊎ (number ≡ 1) → HaveReasonsAside at kept but cuts
    aside_needed needed = aside_less (λ y h not_root. elim needed [
      | inl reason ↦ inr (subst (λ (z : Node). HasReason at kept number z) (same_Some x y (sym stood ∙ h)) reason)
      | inr root ↦ absurd (not_root root)
    ])

    -- it was cut, and is dropped
    pub aside_dropped : (new : Lookup) → x.place ≡ Cut → new ≡ without at number → HaveReasonsAside new kept but cuts
    aside_dropped new place is = subst (λ a. HaveReasonsAside a kept but cuts) (sym is) (record {
      reasons = λ n y h not_root left aside.
          let was = without_some at number n y h in
          let other : (name : List ℕ) → IsNamed at number n name → ⊥ = λ name k. cut_unnamed at number x stood place n name k in
          stays_kept at kept number n y other (before.reasons n y was.1 not_root left (later n y (λ e. was.0 (sym e)) aside));
    })

left_out : (but : Option ℕ) (n : ℕ) → (IsAmong n (listed but) → ⊥) → but ≡ Some n → ⊥
left_out None n left e = none-some n e
left_out (Some b) n left e = left (inl (sym (same_Some b n e)))

-- the list is empty
pub aside_all : (at : Lookup) (kept : ℕ → Bool) (but : Option ℕ) (cuts : List ℕ) → cuts ≡ [] → HaveReasonsAside at kept but cuts → HaveReasonsBut at kept (listed but)
aside_all at kept but cuts none before n x h not_root left = before.reasons n x h not_root (left_out but n left) (λ lost among. let it = subst (λ (l : List ℕ). Contains l n) none among in absurd (omega (arith, it.1)))
