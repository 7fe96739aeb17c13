-- The invariants of a table when names are cut or moved and what nothing keeps alive any more is dropped.
use Rattle.std.proofs.Common.{ℕ, ◌<◌, ◌≡◌, true, Option, Some, Contains, refl, sym, ap, ◌∙◌, subst, inl, inr, arith}
use Rattle.std.proofs.lemmas.Option.{same_Some}
use Rattle.tree.specs.declared.nodes.Node.{Node}
use Rattle.tree.specs.declared.nodes.Place.{Place}
use Rattle.tree.specs.declared.nodes.Place.TheVariants as place
use Rattle.tree.specs.Places.{Lookup, Nodes, at_in, IsTree}
use Rattle.tree.specs.Moves.{after_cut, after_exchange, after_move}
use Rattle.table_files.specs.OpenEntry.{files_of}
use Rattle.table_requests.specs.Listed.{requests_of}
use Rattle.table_law.specs.Law.{HasReason, HaveReasons}
use Rattle.table_footprints.specs.Footprints as footprints
use Rattle.table_steps.specs.Keeping.{kept_by}
use Rattle.table_steps.specs.declared.state.State.{State}
use Rattle.table_steps.specs.Ending.{ChangesNames, IsUnder, KeepsChildren, MayAlter, loses}
use Rattle.table_steps.specs.Kept.{IsKept, flights_in, world_of}
use Rattle.table_steps.specs.Steps.{Alters}
use Rattle.table_steps.specs.Swept.{IsSwept}
use Rattle.table_steps.specs.Sweeping.{AreListed, HaveReasonsAside, IsSameRest, parent_at, parent_in}
use Rattle.table_steps.specs.Upheld.{IsBooked}
use Rattle.table_steps.specs.World.{AreReady, RequestInFlight, RequestsInFlight, IsAtWork, Work}
use Rattle.table_steps.proofs.Booked.{IsBooked-swept}
use Rattle.table_steps.proofs.Altering.{AltersNodes, IsAltered, IsBooked-altered, altered_back, alters_by, alters_hidden, alters_then, nodes_altered, nothing_altered}
use Rattle.table_steps.proofs.Filing.{nodes_swept}
use Rattle.table_steps.proofs.Guarding.{left_where, path_some, path_stays}
use Rattle.table_steps.proofs.Kept.{kept_changed, ready_swept, totals_same}
use Rattle.table_steps.proofs.Lawful.{booked_of, lawful_from}
use Rattle.table_steps.proofs.NewlyCut.{cut_childless, cut_named, was_cut}
use Rattle.table_steps.proofs.Replacing.{alters_follow}
use Rattle.table_steps.proofs.Staying.{KeepsPaths}
use Rattle.table_steps.proofs.Viewed.{are_kept}

-- ---- a change of names without conflicts

-- what it does to each node
altered_by_change : (s : State) (change : footprints.Change) → MayAlter s change → (new : Lookup) → Alters (at_in s.tree) change new → AltersNodes (at_in s.tree) new
altered_by_change s footprints.stays may new same = subst (λ (at : Lookup). AltersNodes (at_in s.tree) at) (sym same) (nothing_altered (at_in s.tree))
altered_by_change s (footprints.cuts l) may new it = alters_by (after_cut it.path) (at_in s.tree) new refl it.changes
altered_by_change s (footprints.moves l m) may new it = alters_by (after_move it.path it.new_path) (at_in s.tree) new refl it.changes
altered_by_change s (footprints.exchanges l m) may new it = alters_by (after_exchange it.path it.new_path) (at_in s.tree) new refl it.changes
altered_by_change s (footprints.hides l c) may new it =
    let m = it.moves in
    alters_hidden (at_in s.tree) l c new it (path_some (at_in s.tree) c may.footprint.exclusive may.placed may.own.1 m.new_path m.new_leads)
    (λ above. may.not_misplaced _ (record { path = m.path; leads = m.leads; new_path = m.new_path; new_leads = m.new_leads; refused = inr (refl, above) }))
altered_by_change s (footprints.replaces l t c moved) may new it =
    let m = it.hides.moves in
    let hidden = alters_hidden (at_in s.tree) t c it.hidden it.hides (path_some (at_in s.tree) c may.footprint.exclusive may.placed may.own.2 m.new_path m.new_leads)
    (λ above. may.not_misplaced _ (inr (record { path = m.path; leads = m.leads; new_path = m.new_path; new_leads = m.new_leads; refused = inr (refl, above) }))) in
    alters_then (at_in s.tree) it.hidden new hidden (alters_follow it.hidden new m.new_path it.path it.new_path moved it.follows)

-- the parents of changing names are given nodes, except the parent of a node that is cut by its number
under_given : (s : State) (change : footprints.Change) (may : MayAlter s change) (n : ℕ) → (loses (at_in s.tree) change ≡ Some n → ⊥) → IsUnder (at_in s.tree) change n → (kept_by s.flights s.files) n ≡ true
under_given s footprints.stays may n other bad = absurd bad
under_given s (footprints.cuts (footprints.AtName p a)) may n other e = may.kept n (subst (λ k. Contains may.footprint.given k) (sym e) (may.grounded.exclusive (footprints.AtName p a) may.own))
under_given s (footprints.cuts (footprints.AtNode m)) may n other (name, (x, here, named)) = absurd (other (ap (λ (o : Option Node). parent_at o) here ∙ ap (λ (p : Place). parent_in p) named))
under_given s (footprints.moves l m) may n other (inl e) = may.kept n (subst (λ k. Contains may.footprint.given k) (sym e) (may.grounded.exclusive l may.own.0))
under_given s (footprints.moves l m) may n other (inr e) = may.kept n (subst (λ k. Contains may.footprint.given k) (sym e) (may.grounded.exclusive m may.own.1))
under_given s (footprints.exchanges l m) may n other (inl e) = may.kept n (subst (λ k. Contains may.footprint.given k) (sym e) (may.grounded.exclusive l may.own.0))
under_given s (footprints.exchanges l m) may n other (inr e) = may.kept n (subst (λ k. Contains may.footprint.given k) (sym e) (may.grounded.exclusive m may.own.1))
under_given s (footprints.hides l c) may n other (inl e) = may.kept n (subst (λ k. Contains may.footprint.given k) (sym e) (may.grounded.exclusive l may.own.0))
under_given s (footprints.hides l c) may n other (inr e) = may.kept n (subst (λ k. Contains may.footprint.given k) (sym e) (may.grounded.exclusive c may.own.1))
under_given s (footprints.replaces l t c m) may n other (inl e) = may.kept n (subst (λ k. Contains may.footprint.given k) (sym e) (may.grounded.exclusive l may.own.0))
under_given s (footprints.replaces l t c m) may n other (inr (inl e)) = may.kept n (subst (λ k. Contains may.footprint.given k) (sym e) (may.grounded.exclusive t may.own.1))
under_given s (footprints.replaces l t c m) may n other (inr (inr e)) = may.kept n (subst (λ k. Contains may.footprint.given k) (sym e) (may.grounded.exclusive c may.own.2))

module _ (s : State) (kept : IsKept s) (change : footprints.Change) (may : MayAlter s change) (mid : Nodes) (alters : Alters (at_in s.tree) change (at_in mid))
    (children : KeepsChildren (at_in s.tree) (IsUnder (at_in s.tree) change) (at_in mid)) (listed : AreListed s.tree mid) (rest : mid ≡ record s.tree { nodes = mid.nodes; next = mid.next; newly_cut = mid.newly_cut }) (tree : IsTree (at_in mid)) where
  abbrev flights : RequestsInFlight
  flights = flights_in (requests_of s.flights)

  it : AltersNodes (at_in s.tree) (at_in mid)
  it = altered_by_change s change may (at_in mid) alters

  keeps : (id : ℕ) (f : RequestInFlight) (work : Work) → IsAtWork flights id f work → KeepsPaths (at_in s.tree) (at_in mid) f.pins work.held
  keeps id f work here n pin q prefixes h = path_stays (at_in s.tree) flights may.footprint may.held may.holds may.clear may.placed id f work here q prefixes change (at_in mid) may.own alters n h

  mid_ready : AreReady (at_in mid) flights
  mid_ready id f work here = (left_where (at_in s.tree) (at_in mid) flights tree keeps).ready id f work here (kept.ready id f work here)

  mid_booked : IsBooked (at_in mid) s.ledger.made (kept_by s.flights s.files)
  mid_booked = IsBooked-altered (at_in s.tree) (at_in mid) tree it s.ledger.made (kept_by s.flights s.files) (booked_of (at_in s.tree) s.ledger.made (kept_by s.flights s.files) kept.law)

  kept_reason : (n : ℕ) (x y : Node) → (loses (at_in s.tree) change ≡ Some n → ⊥) → IsAltered x y → at_in mid n ≡ Some y → (y.place ≡ place.Cut → ⊥) → HasReason (at_in s.tree) (kept_by s.flights s.files) n x → HasReason (at_in mid) (kept_by s.flights s.files) n y
  kept_reason n x y other altered now whole (inl counted) = inl (subst (λ c. 0 < c) (sym altered.count) counted)
  kept_reason n x y other altered now whole (inr (inl hidden)) = inr (inl (altered.marked whole hidden))
  kept_reason n x y other altered now whole (inr (inr (inl pin))) = inr (inr (inl pin))
  kept_reason n x y other altered now whole (inr (inr (inr child))) = elim (children.child n child) [
    | inl still ↦ inr (inr (inr still))
    | inr (inl lost) ↦ absurd (whole (ap (λ (w : Node). w.place) (same_Some y lost.0 (sym now ∙ lost.1)) ∙ lost.2))
    | inr (inr one) ↦ inr (inr (inl (under_given s change may n other one)))
  ]

  -- a node that was cut before has a count or a pin
  cut_reason : (n : ℕ) (x y : Node) → IsAltered x y → at_in s.tree n ≡ Some x → x.place ≡ place.Cut → HasReason (at_in s.tree) (kept_by s.flights s.files) n x → HasReason (at_in mid) (kept_by s.flights s.files) n y
  cut_reason n x y altered stood lost (inl counted) = inl (subst (λ c. 0 < c) (sym altered.count) counted)
  cut_reason n x y altered stood lost (inr (inl hidden)) = let named = kept.law.booked.marks n x stood hidden in absurd (cut_named x.place named.0 lost named.1)
  cut_reason n x y altered stood lost (inr (inr (inl pin))) = inr (inr (inl pin))
  cut_reason n x y altered stood lost (inr (inr (inr child))) = absurd (cut_childless (at_in s.tree) kept.law.tree n x stood lost child)

  -- each node has a reason, except newly cut ones and the parent of a node that is cut by its number
  pub mid_reasons : HaveReasonsAside (at_in mid) (kept_by s.flights s.files) (loses (at_in s.tree) change) mid.newly_cut
  mid_reasons = record {
    reasons = λ n y now not_root other aside.
        let was = altered_back (at_in s.tree) (at_in mid) it n y now in
        let reason = kept.law.reasons n was.0 was.1 not_root in
        elim (was_cut (at_in mid) n) [
          | inl lost ↦
              let place : y.place ≡ place.Cut = ap (λ (w : Node). w.place) (same_Some y lost.0 (sym now ∙ lost.1)) ∙ lost.2 in
              elim (listed.cut n lost) [
                | inl before ↦ cut_reason n was.0 y was.2 was.1 (ap (λ (w : Node). w.place) (same_Some was.0 before.0 (sym was.1 ∙ before.1)) ∙ before.2) reason
                | inr among ↦ absurd (aside place among)
              ]
          | inr whole ↦ kept_reason n was.0 y other was.2 now (λ e. whole (y, now, e)) reason
        ];
  }

  module _ (new : Nodes) (tree' : IsTree (at_in new)) (reasons : HaveReasons (at_in new) (kept_by s.flights s.files)) (swept : IsSwept (kept_by s.flights s.files) (at_in mid) (at_in new)) (same : IsSameRest mid new) where
    pub change_kept : IsKept (record s { tree = new })
    change_kept =
        let kept_now = kept_by s.flights s.files in
        let living = ap (λ (t : Nodes). t.living) rest in
        let counts = ap (λ (t : Nodes). t.counts) rest in
        let room = ap (λ (t : Nodes). t.room) rest in
        let limit = ap (λ (t : Nodes). t.limit) rest in
        kept_changed s new s.ledger s.counts kept
        (lawful_from (at_in new) s.ledger.made kept_now tree' (IsBooked-swept (at_in mid) (at_in new) s.ledger.made kept_now swept mid_booked) reasons)
        (ready_swept (at_in mid) (at_in new) s.flights s.files kept.flying kept.filed tree' swept mid_ready)
        (nodes_swept s.flights s.files kept.filed (at_in mid) (at_in new) swept (nodes_altered (files_of s.files).at (at_in s.tree) (at_in mid) it kept.files))
        (omega (arith, same.room, room)) (omega (arith, same.fewer, living)) (same.limit ∙ limit)
        (omega (arith, same.counts, counts)) (omega arith) (omega arith) (omega (arith, same.counts, counts)) (totals_same s.ledger.made) refl
        (omega (arith, kept.counts, same.counts, counts))

    pub changes_names : ChangesNames (world_of s) change (world_of (record s { tree = new }))
    changes_names = record {
      altered = at_in mid;
      alters = alters;
      sweeps = record { kept = (kept_by s.flights s.files); keeps = are_kept s.flights s.files kept.flying kept.filed; swept = swept; reasons = reasons };
      new_is = refl;
    }
