-- Replacing a name: what was there is hidden, and then another name is moved to its place.
use Rattle.std.proofs.Common.{ℕ, ℤ, ◌&&◌, ◌≡◌, ◌≢◌, if◌then◌else◌, Bool, true, false, not, [], ◌∷◌, ◌++◌, Some, refl, sym, ap, ◌∙◌, reverse, subst, inl, inr}
use Rattle.std.proofs.lemmas.Bool.{and_parts, cases_Bool, cases_eq, false≢true, true≢false}
use Rattle.std.proofs.lemmas.Option.{same_Some}
use Rattle.paths.specs.Prefixes.{Name, Names, is_name, is_prefix}
use Rattle.paths.proofs.PrefixLemmas.{is_name-same, is_name-true, is_prefix-append, is_prefix-both, is_prefix-same, is_prefix-trans, not_over_parent}
use Rattle.tree.specs.declared.nodes.Key.{Key}
use Rattle.tree.specs.declared.nodes.Node.{Node}
use Rattle.tree.specs.Places.{Lookup, IsCut, IsPathOf, IsTree, Leads, with_node}
use Rattle.tree.specs.Moves.{Changes, Stands, Where, after_cut, after_move, at_path, cut}
use Rattle.tree.proofs.Climbing.{path_of_lead, path_same}
use Rattle.tree.proofs.LookupLemmas.{with_other, with_same}
use Rattle.tree.proofs.Transfers.{cut_pathless, path_after_move}
use Rattle.table_footprints.specs.Asked.{HasPath, IsProperPrefix, IsRefusedAt, IsRefusedMove}
use Rattle.table_footprints.specs.Footprints.{Location}
use Rattle.table_steps.specs.Ending.{KeepsChildren, name_at}
use Rattle.table_steps.specs.Steps as steps
use Rattle.table_steps.specs.Steps.{Follows, Hides, Marks, Replaces, after_follow, none_there, one_there}
use Rattle.table_steps.proofs.Altering.{AltersNodes, alters_by, nothing_altered}
use Rattle.table_steps.proofs.Following.{follow_cut, follow_move, leads_on}
use Rattle.table_steps.proofs.Guarding.{path_after_mark}

-- ---- prefixes

-- a path that leads to a name, and is not the name's own path, leads to its parent
prefix_above : (q up : Names) (name : Name) → is_prefix q (up ++ name ∷ []) ≡ true → is_prefix (up ++ name ∷ []) q ≡ false → is_prefix q up ≡ true
prefix_above [] up name a b = refl
prefix_above (x ∷ []) [] name a b =
    let same : x ≡ name = is_name-true x name (and_parts (is_name x name) true a).0 in
    absurd (true≢false (sym (rw (same, is_name-same name) refl) ∙ b))
prefix_above (x ∷ y ∷ q) [] name a b = absurd (false≢true (and_parts (is_name x name) false a).1)
prefix_above (x ∷ q) (y ∷ up) name a b =
    let parts = and_parts (is_name x y) (is_prefix q (up ++ name ∷ [])) a in
    let same : x ≡ y = is_name-true x y parts.0 in
    let rest : is_prefix (up ++ name ∷ []) q ≡ false = sym (ap (λ (c : Bool). c && is_prefix (up ++ name ∷ []) q) (ap (λ (n : Name). is_name y n) same ∙ is_name-same y)) ∙ b in
    rw (parts.0, prefix_above q up name parts.1 rest) refl

-- a path that is not a proper prefix of another does not lead to its parent
apart_above : (q up : Names) (name : Name) → (IsProperPrefix q (up ++ name ∷ []) → ⊥) → is_prefix q up ≡ false
apart_above q up name none = elim (cases_Bool (is_prefix q up)) [
  | inl prefix ↦
      let other : q ≢ up ++ name ∷ [] = λ e. true≢false (sym prefix ∙ (ap (λ (r : Names). is_prefix r up) e ∙ not_over_parent up name)) in
      absurd (none (record { begins = is_prefix-trans q up (up ++ name ∷ []) prefix (is_prefix-append up (name ∷ [])); other = other }))
  | inr apart ↦ apart
]

-- ---- the move that follows

if_same : {X : Type 0} → (b : Bool) (x : X) → (if b then x else x) ≡ x
if_same true x = refl
if_same false x = refl

pub alters_follow : (old new : Lookup) (c p q : Names) (moved : Bool) → Follows old c p q moved new → AltersNodes old new
alters_follow old new c p q false same = subst (λ (at : Lookup). AltersNodes old at) (sym same) (nothing_altered old)
alters_follow old new c p q true changes = alters_by (after_follow c p q) old new (if_same (leads_on c p) cut) changes

-- ---- which nodes keep their children

pub children_then : (old mid new : Lookup) (one two both : ℕ → Type 0) → ((n : ℕ) → one n → both n) → ((n : ℕ) → two n → both n) → AltersNodes mid new → KeepsChildren old one mid → KeepsChildren mid two new → KeepsChildren old both new
children_then old mid new one two both first second a k l = record {
  child = λ n child. elim (k.child n child) [
    | inl still ↦ elim (l.child n still) [
      | inl yet ↦ inl yet
      | inr (inl lost) ↦ inr (inl lost)
      | inr (inr it) ↦ inr (inr (second n it))
    ]
    | inr (inl lost) ↦ let it = a.kept n lost.0 lost.1 in inr (inl (it.0, it.1, it.2.cut lost.2))
    | inr (inr it) ↦ inr (inr (first n it))
  ];
}

-- ---- after the target is hidden

-- a cut node stays cut when another one is marked
cut_marked : (before old new : Lookup) (l : Location) → Marks before l old new → (n : ℕ) → IsCut old n → IsCut new n
cut_marked before old new l (none_there none same) n lost = subst (λ (at : Lookup). IsCut at n) (sym same) lost
cut_marked before old new l (one_there m x there here same) n lost =
    let y = record x { hidden = true } in
    subst (λ (at : Lookup). IsCut at n) (sym same) (elim (cases_eq m n) [
      | inl e ↦ (y, subst (λ k. with_node old m y k ≡ Some y) e (with_same old m y), ap (λ (w : Node). w.place) (same_Some x lost.0 (sym here ∙ (ap old e ∙ lost.1))) ∙ lost.2)
      | inr ne ↦ (lost.0, with_other old m y n ne ∙ lost.1, lost.2)
    ])

module _ (old hidden : Lookup) (tree' : IsTree hidden) (key target candidate : Key) (above : Leads old key.parent)
    (may : (e : ℤ) → IsRefusedAt old (name_at key) (name_at target) e → ⊥) (may_hide : (e : ℤ) → IsRefusedAt old (name_at target) (name_at candidate) e → ⊥)
    (hides : Hides old (name_at target) (name_at candidate) hidden) where
  abbrev up : Names
  up = (path_of_lead old key.parent above).0

  up_leads : IsPathOf old key.parent up
  up_leads = (path_of_lead old key.parent above).1

  abbrev path : Names
  path = up ++ key.name ∷ []

  abbrev new_up : Names
  new_up = hides.moves.leads.above

  abbrev new_path : Names
  new_path = hides.moves.path

  abbrev under : Names
  under = hides.moves.new_path

  whole : new_path ≡ new_up ++ target.name ∷ []
  whole = hides.moves.leads.whole

  refused_move : (e : ℤ) → IsRefusedMove path new_path e → ⊥
  refused_move e refused = may e (record { path = path; leads = record { above = up; leads = up_leads; whole = refl }; new_path = new_path; new_leads = hides.moves.leads; refused = refused })

  refused_hide : (e : ℤ) → IsRefusedMove new_path under e → ⊥
  refused_hide e refused = may_hide e (record { path = new_path; leads = hides.moves.leads; new_path = under; new_leads = hides.moves.new_leads; refused = refused })

  -- a path that neither the target nor the candidate leads to does not change
  stays : (n : ℕ) (p : Names) → is_prefix new_path p ≡ false → is_prefix under p ≡ false → IsPathOf old n p → IsPathOf hidden n p
  stays n p a b h = path_after_mark old hides.mid hidden (name_at target) hides.marks n p (path_after_move old hides.mid new_path under hides.moves.changes n p b a h)

  target_stays : IsPathOf hidden target.parent new_up
  target_stays = stays target.parent new_up
      (ap (λ (r : Names). is_prefix r new_up) whole ∙ not_over_parent new_up target.name)
      (apart_above under new_up target.name (λ proper. refused_hide _ (inr (refl, subst (λ (r : Names). IsProperPrefix under r) (sym whole) proper))))
      hides.moves.leads.leads

  pub target_leads : Leads hidden target.parent
  target_leads = record { names = reverse new_up; climb = target_stays }

  -- the target's path is unchanged
  target_same : (p : Names) → HasPath hidden (name_at target) p → p ≡ new_path
  target_same p leads = leads.whole ∙ (ap (λ (r : Names). r ++ target.name ∷ []) (path_same hidden tree'.rooted leads.above new_up target.parent leads.leads target_stays) ∙ sym whole)

  module _ (off : leads_on under path ≡ false) where
    under_apart : is_prefix under up ≡ false
    under_apart = elim (cases_Bool (is_prefix under up)) [
      | inl prefix ↦
          let on : is_prefix under path ≡ true = is_prefix-trans under up path prefix (is_prefix-append up (key.name ∷ [])) in
          elim (cases_Bool (is_prefix path under)) [
            | inl back ↦ absurd (true≢false (sym (is_prefix-trans path under up back prefix) ∙ not_over_parent up key.name))
            | inr none ↦ absurd (true≢false (sym (rw (on, none) refl) ∙ off))
          ]
      | inr apart ↦ apart
    ]

    source_stays : IsPathOf hidden key.parent up
    source_stays = stays key.parent up (apart_above new_path up key.name (λ proper. refused_move _ (inr (refl, proper)))) under_apart up_leads

    source_leads : Leads hidden key.parent
    source_leads = record { names = reverse up; climb = source_stays }

    source_same : (p : Names) → HasPath hidden (name_at key) p → p ≡ path
    source_same p leads = leads.whole ∙ ap (λ (r : Names). r ++ key.name ∷ []) (path_same hidden tree'.rooted leads.above up key.parent leads.leads source_stays)

  module _ (on : leads_on under path ≡ true) where
    parts : (is_prefix under path ≡ true) × (not (is_prefix path under) ≡ true)
    parts = and_parts (is_prefix under path) (not (is_prefix path under)) on

    not_back : is_prefix path under ≡ false
    not_back = elim (cases_Bool (is_prefix path under)) [
      | inl back ↦ absurd (false≢true (sym (ap not back) ∙ parts.1))
      | inr none ↦ none
    ]

    -- the target is not the candidate: it does not lead to the source
    not_same : (is_prefix new_path under && is_prefix under new_path) ≡ false
    not_same = elim (cases_Bool (is_prefix new_path under && is_prefix under new_path)) [
      | inl both ↦
          let two = and_parts (is_prefix new_path under) (is_prefix under new_path) both in
          let same : new_path ≡ under = is_prefix-both new_path under two.0 two.1 in
          let other : new_path ≢ path = λ e. true≢false (sym (is_prefix-same path) ∙ (ap (λ (r : Names). is_prefix path r) (sym e ∙ same) ∙ not_back)) in
          absurd (refused_move _ (inr (refl, record { begins = subst (λ (r : Names). is_prefix r path ≡ true) (sym same) parts.0; other = other })))
      | inr none ↦ none
    ]

    source_cut : IsCut hidden key.parent
    source_cut =
        let here : is_prefix under up ≡ true = prefix_above under up key.name parts.0 not_back in
        let gone : after_move new_path under (at_path up) ≡ cut = rw (not_same, here) refl in
        cut_marked old hides.mid hidden (name_at target) hides.marks key.parent (subst (λ (w : Where). Stands hides.mid key.parent w) gone (hides.moves.changes.moved key.parent (at_path up) up_leads))

    source_lost : Leads hidden key.parent → ⊥
    source_lost leads = let it = path_of_lead hidden key.parent leads in cut_pathless hidden tree' key.parent it.0 source_cut it.1

  -- the following move may be made
  pub may_follow : (e : ℤ) → IsRefusedAt hidden (name_at key) (name_at target) e → ⊥
  may_follow e it = elim (cases_Bool (leads_on under path)) [
    | inl on ↦ cut_pathless hidden tree' key.parent it.leads.above (source_cut on) it.leads.leads
    | inr off ↦ refused_move e (subst (λ (r : Names). IsRefusedMove path r e) (target_same it.new_path it.new_leads) (subst (λ (r : Names). IsRefusedMove r it.new_path e) (source_same off it.path it.leads) it.refused))
  ]

  module _ (new : Lookup) (moves : Leads hidden key.parent → steps.Moves hidden (name_at key) (name_at target) new) (exclusive : (Leads hidden key.parent → ⊥) → steps.Cuts hidden (name_at target) new) where
    follows : Follows hidden under path new_path true new
    follows = elim (cases_Bool (leads_on under path)) [
      | inl on ↦
          let cuts = exclusive (source_lost on) in
          subst (λ f. Changes f hidden new) (sym (follow_cut under path new_path on)) (subst (λ (r : Names). Changes (after_cut r) hidden new) (target_same cuts.path cuts.leads) cuts.changes)
      | inr off ↦
          let it = moves (source_leads off) in
          subst (λ f. Changes f hidden new) (sym (follow_move under path new_path off))
          (subst (λ (r : Names). Changes (after_move path r) hidden new) (target_same it.new_path it.new_leads)
          (subst (λ (r : Names). Changes (after_move r it.new_path) hidden new) (source_same off it.path it.leads) it.changes))
    ]

    pub replaced : Replaces old (name_at key) (name_at target) (name_at candidate) true new
    replaced = record { path = path; leads = record { above = up; leads = up_leads; whole = refl }; new_path = new_path; new_leads = hides.moves.leads; hidden = hidden; hides = hides; follows = follows }

    pub replaced_children : (one two both : ℕ → Type 0) → ((n : ℕ) → one n → both n) → ((n : ℕ) → two n → both n) → KeepsChildren old one hidden → KeepsChildren hidden two new → KeepsChildren old both new
    replaced_children one two both first second k l = children_then old hidden new one two both first second (alters_follow hidden new under path new_path true follows) k l

  pub replaced_none : Replaces old (name_at key) (name_at target) (name_at candidate) false hidden
  replaced_none = record { path = path; leads = record { above = up; leads = up_leads; whole = refl }; new_path = new_path; new_leads = hides.moves.leads; hidden = hidden; hides = hides; follows = refl }
