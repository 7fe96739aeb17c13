-- Hiding a name: what is there is moved to another name in the same folder and marked.
use Rattle.std.proofs.Common.{Bool, ℕ, ℤ, ◌≡◌, [], ◌∷◌, ◌++◌, true, length-append, Option, Some, None, refl, sym, ap, ◌∙◌, subst, inl, inr, arith}
use Rattle.std.specs.List.{slice_get}
use Rattle.std.proofs.lemmas.Bool.{cases_eq}
use Rattle.std.proofs.lemmas.Option.{same_Some}
use Rattle.table_requests.specs.declared.data.Work.{Work as RecordedWork}
use Rattle.paths.specs.Prefixes.{Name, Names}
use Rattle.paths.proofs.PrefixLemmas.{is_prefix-whole}
use Rattle.tree.specs.declared.nodes.Key.{Key}
use Rattle.tree.specs.declared.nodes.Node.{Node}
use Rattle.tree.specs.Places.{Lookup, IsAlive, IsNamed, IsTree, Nodes, at_in, with_node}
use Rattle.tree.specs.Moves.{Writes, after_move}
use Rattle.tree.proofs.Climbing.{path_same}
use Rattle.tree.proofs.LookupLemmas.{with_other, with_same}
use Rattle.tree.proofs.Transfers.{changes_alive}
use Rattle.table_footprints.specs.Asked.{HasPath, IsMisplaced, IsProperPrefix, IsRefusedAt}
use Rattle.table_footprints.specs.Laws.{AreSiblings, IsBeside}
use Rattle.table_footprints.specs.NewRequests.{footprint_in}
use Rattle.table_footprints.specs.Footprints.{AtName, AtNode, Change, Location, cuts, exchanges, hides, moves, replaces, stays}
use Rattle.table_steps.specs.declared.state.State.{State}
use Rattle.table_steps.specs.Ending.{IsEnding, KeepsChildren, MayAlter, name_at}
use Rattle.table_steps.specs.Kept.{IsKept}
use Rattle.table_steps.specs.Steps as steps
use Rattle.table_steps.specs.Steps.{hiding_at, none_there, one_there, replacing_at}
use Rattle.table_steps.proofs.Guarding.{candidate_in, hiding_own, replacing_own}
use Rattle.table_steps.proofs.Reasons.{child_written}
use Rattle.table_steps.proofs.Rooted.{is_row, may_alter}

-- ---- names in the same folder

-- two names under one node: neither path is a proper prefix of the other
short : (up : Names) (a b : Name) → IsProperPrefix (up ++ a ∷ []) (up ++ b ∷ []) → ⊥
short up a b it = it.other (is_prefix-whole (up ++ a ∷ []) (up ++ b ∷ []) it.begins (omega (arith, length-append up (a ∷ []), length-append up (b ∷ []))))

siblings_placed : (at : Lookup) → IsTree at → (l c : Location) → AreSiblings l c → (e : ℤ) → IsRefusedAt at l c e → ⊥
siblings_placed at tree (AtNode n) c bad e it = absurd bad
siblings_placed at tree (AtName p a) (AtNode n) bad e it = absurd bad
siblings_placed at tree (AtName p a) (AtName q b) same e it =
    let up = it.leads.above in
    let leads = subst (λ n. HasPath at (AtName n b) it.new_path) (sym same) it.new_leads in
    let one : leads.above ≡ up = path_same at tree.rooted leads.above up p leads.leads it.leads.leads in
    let path : it.path ≡ up ++ a ∷ [] = it.leads.whole in
    let new_path : it.new_path ≡ up ++ b ∷ [] = leads.whole ∙ ap (λ (r : Names). r ++ b ∷ []) one in
    elim it.refused [
      | inl (_, proper) ↦ short up a b (subst (λ (r : Names). IsProperPrefix (up ++ a ∷ []) r) new_path (subst (λ (r : Names). IsProperPrefix r it.new_path) path proper))
      | inr (_, proper) ↦ short up b a (subst (λ (r : Names). IsProperPrefix (up ++ b ∷ []) r) path (subst (λ (r : Names). IsProperPrefix r it.path) new_path proper))
    ]

hiding_placed : (at : Lookup) → IsTree at → (change : Change) (o : Option Location) → ((l : Location) → o ≡ Some l → IsBeside change l) → (e : ℤ) → IsMisplaced at (hiding_at change o) e → ⊥
hiding_placed at tree stays o beside e bad = bad
hiding_placed at tree (cuts (AtNode n)) o beside e bad = bad
hiding_placed at tree (cuts (AtName p a)) None beside e bad = bad
hiding_placed at tree (cuts (AtName p a)) (Some c) beside e bad = siblings_placed at tree (AtName p a) c (beside c refl) e bad
hiding_placed at tree (moves s t) o beside e bad = bad
hiding_placed at tree (hides l c) o beside e bad = bad
hiding_placed at tree (replaces s t c moved) o beside e bad = bad
hiding_placed at tree (exchanges s t) o beside e bad = bad

-- what a request may hide at its end
pub may_hide : (s : State) (id : ℕ) (work : RecordedWork) → IsKept s → IsEnding s id work → (i : ℕ) → MayAlter s (hiding_at (footprint_in work).done (slice_get (footprint_in work).candidates i))
may_hide s id work kept e i =
    let d = footprint_in work in
    let grounded = is_row s id work kept e in
    let may = may_alter s id work kept e in
    record {
      footprint = d;
      grounded = grounded;
      placed = may.placed;
      own = hiding_own d.exclusive d.done (slice_get d.candidates i) grounded.own (λ l found. grounded.hidden l (candidate_in d.candidates i l found));
      held = may.held;
      holds = may.holds;
      clear = may.clear;
      kept = may.kept;
      not_misplaced = hiding_placed (at_in s.tree) kept.law.tree d.done (slice_get d.candidates i) (λ l found. grounded.beside l (candidate_in d.candidates i l found));
    }

replacing_placed : (at : Lookup) → IsTree at → (change : Change) (o : Option Location) (moved : Bool) → ((e : ℤ) → IsMisplaced at change e → ⊥) → ((l : Location) → o ≡ Some l → IsBeside change l) → (e : ℤ) → IsMisplaced at (replacing_at change o moved) e → ⊥
replacing_placed at tree stays o moved may beside e bad = bad
replacing_placed at tree (cuts l) o moved may beside e bad = bad
replacing_placed at tree (moves s t) None moved may beside e bad = bad
replacing_placed at tree (moves s t) (Some c) moved may beside e (inl bad) = may e bad
replacing_placed at tree (moves s t) (Some c) moved may beside e (inr bad) = siblings_placed at tree t c (beside c refl) e bad
replacing_placed at tree (hides l c) o moved may beside e bad = bad
replacing_placed at tree (replaces s t c again) o moved may beside e bad = bad
replacing_placed at tree (exchanges s t) o moved may beside e bad = bad

-- and what it may replace
pub may_replace : (s : State) (id : ℕ) (work : RecordedWork) → IsKept s → IsEnding s id work → (i : ℕ) (moved : Bool) → MayAlter s (replacing_at (footprint_in work).done (slice_get (footprint_in work).candidates i) moved)
may_replace s id work kept e i moved =
    let d = footprint_in work in
    let grounded = is_row s id work kept e in
    let may = may_alter s id work kept e in
    record {
      footprint = d;
      grounded = grounded;
      placed = may.placed;
      own = replacing_own d.exclusive d.done (slice_get d.candidates i) moved grounded.own (λ l found. grounded.hidden l (candidate_in d.candidates i l found));
      held = may.held;
      holds = may.holds;
      clear = may.clear;
      kept = may.kept;
      not_misplaced = replacing_placed (at_in s.tree) kept.law.tree d.done (slice_get d.candidates i) moved may.not_misplaced (λ l found. grounded.beside l (candidate_in d.candidates i l found));
    }

-- ---- a mark

-- a node with a child still has it
children_marked : (old mid : Lookup) (n : ℕ) (x : Node) (but : ℕ → Type 0) → mid n ≡ Some x → KeepsChildren old but mid → KeepsChildren old but (with_node mid n (record x { hidden = true }))
children_marked old mid n x but here keeps =
    let y = record x { hidden = true } in
    record {
      child = λ m child. elim (keeps.child m child) [
        | inl still ↦ inl (child_written mid n x y here refl m still)
        | inr (inl lost) ↦ inr (inl (elim (cases_eq n m) [
          | inl e ↦ (y, subst (λ k. with_node mid n y k ≡ Some y) e (with_same mid n y), ap (λ (w : Node). w.place) (same_Some x lost.0 (sym here ∙ (ap mid e ∙ lost.1))) ∙ lost.2)
          | inr ne ↦ (lost.0, with_other mid n y m ne ∙ lost.1, lost.2)
        ]))
        | inr (inr one) ↦ inr (inr one)
      ];
    }

module _ (old : Lookup) (key target : Key) (mid : Nodes) (moved : steps.Moves old (name_at key) (name_at target) (at_in mid)) where
  module _ (number : ℕ) (named : IsNamed old number key.parent key.name) where
    pub alive_there : IsAlive (at_in mid) number
    alive_there = changes_alive (after_move moved.path moved.new_path) old (at_in mid) moved.changes number (named.0, named.1)

    module _ (new : Nodes) (writes : (x : Node) → at_in mid number ≡ Some x → Writes mid number x (record x { hidden = true }) new) where
      pub hides_named : steps.Hides old (name_at key) (name_at target) (at_in new)
      hides_named =
          let x = alive_there.0 in
          record { mid = at_in mid; moves = moved; marks = one_there number x named alive_there.1 (writes x alive_there.1).nodes }

      pub hide_children : (but : ℕ → Type 0) → KeepsChildren old but (at_in mid) → KeepsChildren old but (at_in new)
      hide_children but keeps =
          let x = alive_there.0 in
          subst (λ (at : Lookup). KeepsChildren old but at) (sym (writes x alive_there.1).nodes) (children_marked old (at_in mid) number x but alive_there.1 keeps)
