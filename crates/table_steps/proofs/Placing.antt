-- What a cut and a move at a name do to a tree.
use Rattle.std.proofs.Common.{ℕ, ℤ, ◌&&◌, ◌≡◌, ◌≢◌, Some, true, false, [], ◌∷◌, ◌++◌, reverse, refl, sym, ap, ◌∙◌, subst, ◌⊎◌, inl, inr}
use Rattle.std.proofs.lemmas.Bool.{cases_Bool, true≢false, and_parts}
use Rattle.std.proofs.lemmas.List.{reverse-append}
use Rattle.std.proofs.lemmas.Option.{none-some, same_Some}
use Rattle.paths.specs.Prefixes.{Name, Names, is_prefix}
use Rattle.paths.proofs.PrefixLemmas.{is_prefix-append, is_prefix-both, is_prefix-more, is_prefix-same, is_prefix-trans, not_over_parent}
use Rattle.tree.specs.declared.nodes.Key.{Key}
use Rattle.tree.specs.declared.nodes.Node.{Node}
use Rattle.tree.specs.declared.nodes.Place.TheVariants as place
use Rattle.tree.specs.declared.nodes.TreeFault.{TreeFault}
use Rattle.tree.specs.declared.nodes.TreeFault.TheVariants as fault
use Rattle.tree.specs.Places.{Lookup, HasChild, IsAlive, IsFree, IsNamed, IsPathOf, IsTree, Leads, Nodes, Reaches, at_in}
use Rattle.tree.specs.Moves.{CanRelink, Changes, Cuts, CutsBelow, IsFault, Moves, Stands, Where, after_cut, after_move, at_path, cut, cut_node}
use Rattle.tree.proofs.Climbing.{climbs_alive, cut_unnamed, named_at, named_same, path_of_lead, path_under, reaches_split, root_unnamed}
use Rattle.tree.proofs.Transfers.{can_relink, child_after_cut, child_after_relink, cuts_at, moves_at}
use Rattle.tree.proofs.Moving.{Changes-free}
use Rattle.table_steps.specs.Ending.{IsOver, KeepsChildren, name_at}
use Rattle.table_footprints.specs.Footprints.{AtNode}
use Rattle.table_footprints.specs.Asked.{HasPath, IsRefusedAt, IsRefusedMove}
use Rattle.table_steps.specs.Steps as steps
use Rattle.table_steps.proofs.Lawful.{named_not_root}

-- a node with a child that has a name is alive
way_alive : (at : Lookup) → IsTree at → (m c : ℕ) (name : Name) → IsNamed at c m name → (up : Names) → Reaches at 1 c up → IsAlive at m
way_alive at tree m c name named [] way = absurd (root_unnamed at tree.rooted m name (subst (λ k. IsNamed at k m name) way named))
way_alive at tree m c name named (x ∷ up) way =
    let same = named_same at c m way.0 name x named way.1 in
    climbs_alive at tree.rooted up m (subst (λ k. Reaches at 1 k up) (sym same.0) way.2)

way_leads : (at : Lookup) → IsTree at → (n p : ℕ) (name : Name) → IsNamed at n p name → (way : Names) → Reaches at 1 n way → Leads at p
way_leads at tree n p name named [] way = absurd (root_unnamed at tree.rooted p name (subst (λ k. IsNamed at k p name) way named))
way_leads at tree n p name named (x ∷ up) way =
    let same = named_same at n p way.0 name x named way.1 in
    record { names = up; climb = subst (λ k. Reaches at 1 k up) (sym same.0) way.2 }

child_alive : (at : Lookup) → IsTree at → (m : ℕ) → HasChild at m → IsAlive at m
child_alive at tree m (c, name, named) = let lead = tree.reached c m name named in way_alive at tree m c name named lead.names lead.climb

-- and leads to the root
pub parent_leads : (at : Lookup) → IsTree at → (n p : ℕ) (name : Name) → IsNamed at n p name → Leads at p
parent_leads at tree n p name named = let lead = tree.reached n p name named in way_leads at tree n p name named lead.names lead.climb

-- and is not cut
way_or_cut : (at : Lookup) → IsTree at → (n : ℕ) (names : Names) → Reaches at 1 n names → (x : Node) → at n ≡ Some x → x.place ≡ place.Cut → ⊥
way_or_cut at tree n [] e x stood lost =
    let r = tree.rooted in
    let same : x ≡ r.node = same_Some x r.node (sym stood ∙ (ap at e ∙ r.here)) in
    let bad : place.Cut ≡ place.Root = sym lost ∙ (ap (λ (w : Node). w.place) same ∙ r.root) in
    cc
way_or_cut at tree n (name ∷ up) h x stood lost = cut_unnamed at n x stood lost h.0 name h.1

-- ---- a cut

pub cut_children : (old new : Lookup) → IsTree old → (number parent : ℕ) (name : Name) → IsNamed old number parent name → CutsBelow old new number → KeepsChildren old (λ n. n ≡ parent) new
cut_children old new tree number parent name named below = record {
  child = λ n child. elim (child_after_cut old new number below n child) [
    | inl still ↦ inl still
    | inr (inl under) ↦ let alive = child_alive old tree n child in inr (inl (cut_node alive.0, below.all n under alive.0 alive.1, refl))
    | inr (inr (called, named')) ↦ inr (inr (named_same old number n parent called name named' named).0)
  ];
}

-- when a node is cut by its number, its parent loses it
pub cut_children_node : (old new : Lookup) → IsTree old → (number : ℕ) → CutsBelow old new number → KeepsChildren old (IsOver old (AtNode number)) new
cut_children_node old new tree number below = record {
  child = λ n child. elim (child_after_cut old new number below n child) [
    | inl still ↦ inl still
    | inr (inl under) ↦ let alive = child_alive old tree n child in inr (inl (cut_node alive.0, below.all n under alive.0 alive.1, refl))
    | inr (inr over) ↦ inr (inr over)
  ];
}

-- a node that leads to the root exists and is not cut
pub no_fault : (at : Lookup) → IsTree at → (number : ℕ) → Leads at number → (e : TreeFault) → IsFault at number e → ⊥
no_fault at tree number way fault.Unknown bad = let it = climbs_alive at tree.rooted way.names number way.climb in none-some it.0 (sym bad ∙ it.1)
no_fault at tree number way fault.Cut bad = way_or_cut at tree number way.names way.climb bad.0 bad.1 bad.2
no_fault at tree number way fault.Full bad = bad
no_fault at tree number way fault.Memory bad = bad
no_fault at tree number way fault.PathLong bad = bad

-- ---- a move

module _ (at : Lookup) (tree : IsTree at) (key target : Key) (above new_above : Names) (leads : IsPathOf at key.parent above) (new_leads : IsPathOf at target.parent new_above)
    (may : (e : ℤ) → IsRefusedAt at (name_at key) (name_at target) e → ⊥) where
  abbrev path : Names
  path = above ++ key.name ∷ []

  abbrev new_path : Names
  new_path = new_above ++ target.name ∷ []

  not_astray : (e : ℤ) → IsRefusedMove path new_path e → ⊥
  not_astray e refused = may e (record {
    path = path;
    leads = record { above = above; leads = leads; whole = refl };
    new_path = new_path;
    new_leads = record { above = new_above; leads = new_leads; whole = refl };
    refused = refused;
  })

  -- the name does not lead to the new parent
  not_into : is_prefix path new_above ≡ false
  not_into = elim (cases_Bool (is_prefix path new_above)) [
    | inl prefix ↦
        let other : path ≢ new_path = λ e. true≢false (sym prefix ∙ (ap (λ (p : Names). is_prefix p new_above) e ∙ not_over_parent new_above target.name)) in
        absurd (not_astray _ (inl (refl, record { begins = is_prefix-trans path new_above new_path prefix (is_prefix-append new_above (target.name ∷ [])); other = other })))
    | inr none ↦ none
  ]

  -- the new name leads to the old one only if they are equal
  not_over : is_prefix new_path path ≡ true → path ≡ new_path
  not_over prefix = elim (cases_Bool (is_prefix path new_path)) [
    | inl back ↦ is_prefix-both path new_path back prefix
    | inr none ↦
        let other : new_path ≢ path = λ e. true≢false (sym (is_prefix-same path) ∙ (ap (is_prefix path) (sym e) ∙ none)) in
        absurd (not_astray _ (inr (refl, record { begins = prefix; other = other })))
  ]

  module _ (number : ℕ) (named : IsNamed at number key.parent key.name) where
    pub may_relink : CanRelink at number target.parent target.name
    may_relink = can_relink at tree number target.parent target.name path new_above (named_not_root at number key.parent key.name tree named)
        (path_under at number key.parent above key.name named leads) new_leads not_into not_over

    pub move_children : (new : Lookup) → Moves at new number target.parent target.name → KeepsChildren at (λ n. (n ≡ key.parent) ⊎ (n ≡ target.parent)) new
    move_children new moves = record {
      child = λ n child. elim (child_after_relink at new tree number target.parent target.name may_relink moves n (child_alive at tree n child) child) [
        | inl still ↦ inl still
        | inr (inl lost) ↦ inr (inl lost)
        | inr (inr (called, named')) ↦ inr (inr (inl (named_same at number n key.parent called key.name named' named).0))
      ];
    }

-- ---- a move of a name without a node

-- no path goes through a free name
free_prefix : (at : Lookup) → IsTree at → (parent : ℕ) (up : Names) (name : Name) → IsPathOf at parent up → IsFree at parent name → (n : ℕ) (r : Names) → IsPathOf at n r → is_prefix (up ++ name ∷ []) r ≡ false
free_prefix at tree parent up name leads free n r h = elim (cases_Bool (is_prefix (up ++ name ∷ []) r)) [
  | inl prefix ↦
      let p = up ++ name ∷ [] in
      let more = is_prefix-more p r prefix in
      let whole : reverse r ≡ reverse more.0 ++ reverse p = ap (λ (q : Names). reverse q) more.1 ∙ reverse-append p more.0 in
      let split = reaches_split at 1 (reverse more.0) (reverse p) n (subst (λ (q : Names). Reaches at 1 n q) whole h) in
      absurd (free split.0 (named_at at tree split.0 parent up name leads split.2))
  | inr none ↦ none
]

-- if no path goes through p, a move of p to q only cuts q
cut_alone : (p q r : Names) → is_prefix p r ≡ false → after_cut q (at_path r) ≡ after_move p q (at_path r)
cut_alone p q r none = elim (cases_Bool (is_prefix p q && is_prefix q p)) [
  | inl both ↦
      let parts = and_parts (is_prefix p q) (is_prefix q p) both in
      let same : p ≡ q = is_prefix-both p q parts.0 parts.1 in
      let none' : is_prefix q r ≡ false = subst (λ (t : Names). is_prefix t r ≡ false) same none in
      rw (both, none') refl
  | inr other ↦ rw (other, none) refl
]

module _ (old new : Lookup) (tree : IsTree old) (parent : ℕ) (up : Names) (name : Name) (leads : IsPathOf old parent up) (free : IsFree old parent name) (q : Names) (cuts : Changes (after_cut q) old new) where
  same_where : (n : ℕ) (w : Where) → Stands old n w → after_cut q w ≡ after_move (up ++ name ∷ []) q w
  same_where n cut st = refl
  same_where n (at_path r) st = cut_alone (up ++ name ∷ []) q r (free_prefix old tree parent up name leads free n r st)

  pub moves_none : Changes (after_move (up ++ name ∷ []) q) old new
  moves_none = record {
    moved = λ n w st. subst (λ (v : Where). Stands new n v) (same_where n w st) (cuts.moved n w st);
    none_comes = cuts.none_comes;
    kept = cuts.kept;
  }

-- ---- what is cut and moved, with its paths

-- the path of a name
at_name : (at : Lookup) (key : Key) (up : Names) → IsPathOf at key.parent up → HasPath at (name_at key) (up ++ key.name ∷ [])
at_name at key up leads = record { above = up; leads = leads; whole = refl }

pub cuts_free : (at : Lookup) → IsTree at → (key : Key) → Leads at key.parent → IsFree at key.parent key.name → steps.Cuts at (name_at key) at
cuts_free at tree key above free =
    let up = path_of_lead at key.parent above in
    record { path = up.0 ++ key.name ∷ []; leads = at_name at key up.0 up.1; changes = Changes-free at tree key.parent up.0 key.name up.1 free }

pub cuts_named : (old new : Nodes) → IsTree (at_in old) → (key : Key) → Leads (at_in old) key.parent → (number : ℕ) → IsNamed (at_in old) number key.parent key.name → Cuts old number new → steps.Cuts (at_in old) (name_at key) (at_in new)
cuts_named old new tree key above number named cuts =
    let up = path_of_lead (at_in old) key.parent above in
    let path = up.0 ++ key.name ∷ [] in
    record { path = path; leads = at_name (at_in old) key up.0 up.1; changes = cuts_at old new number tree cuts path (path_under (at_in old) number key.parent up.0 key.name named up.1) }

module _ (old new : Lookup) (tree : IsTree old) (key target : Key) (above : Leads old key.parent) where
  pub moves_named : Leads old target.parent → (number : ℕ) → IsNamed old number key.parent key.name → Moves old new number target.parent target.name → steps.Moves old (name_at key) (name_at target) new
  moves_named new_above number named moves =
      let up = path_of_lead old key.parent above in
      let new_up = path_of_lead old target.parent new_above in
      let path = up.0 ++ key.name ∷ [] in
      record {
        path = path;
        leads = at_name old key up.0 up.1;
        new_path = new_up.0 ++ target.name ∷ [];
        new_leads = at_name old target new_up.0 new_up.1;
        changes = moves_at old new number target.parent target.name tree moves path new_up.0 (path_under old number key.parent up.0 key.name named up.1) new_up.1;
      }

  pub moves_free : IsFree old key.parent key.name → steps.Cuts old (name_at target) new → steps.Moves old (name_at key) (name_at target) new
  moves_free free cuts =
      let up = path_of_lead old key.parent above in
      record {
        path = up.0 ++ key.name ∷ [];
        leads = at_name old key up.0 up.1;
        new_path = cuts.path;
        new_leads = cuts.leads;
        changes = moves_none old new tree key.parent up.0 key.name up.1 free cuts.path cuts.changes;
      }

-- ---- which nodes may lose their children

pub children_more : (old new : Lookup) (but more : ℕ → Type 0) → ((n : ℕ) → but n → more n) → KeepsChildren old but new → KeepsChildren old more new
children_more old new but more wider keeps = record {
  child = λ n child. elim (keeps.child n child) [
    | inl still ↦ inl still
    | inr (inl lost) ↦ inr (inl lost)
    | inr (inr one) ↦ inr (inr (wider n one))
  ];
}
