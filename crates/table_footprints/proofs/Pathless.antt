-- What closing a file reserves.
use Rattle.std.proofs.Common.{ℕ, Bool, false, true, ◌↔◌, ◌≤◌, ◌≡◌, ◌⊎◌, [], Some, reverse, refl, sym, ap, ◌∙◌, subst, inl, inr, arith}
use Rattle.std.proofs.lemmas.Bool.{cases_Bool, cases_eq, cases_lt}
use Rattle.std.proofs.lemmas.Option.{none-some, same_Some}
use Rattle.std.proofs.lemmas.Bool.{false≢true}
use Rattle.std.proofs.lemmas.Bool.Decides.{Decides-int_eq}
use Rattle.std.specs.Ordering.{int_eq}
use Rattle.std.specs.Prelude.{option_map, sum_by, unwrap_or}
use Rattle.errno.specs.declared.TheConstants.{ENAMETOOLONG, ENOMEM, ESTALE}
use Rattle.table_files.specs.Handles.{Files, of_node}
use Rattle.table_requests.specs.declared.data.Case.{Case}
use Rattle.table_requests.specs.declared.data.Case.TheVariants as cases
use Rattle.table_requests.specs.declared.data.Want.{Want}
use Rattle.table_requests.specs.declared.data.Want.TheVariants as wants
use Rattle.paths.specs.Prefixes.{Names, path_bytes}
use Rattle.collections.specs.Sum.{IsSum}
use Rattle.collections.proofs.Once.{sum_once}
use Rattle.tree.specs.declared.nodes.Node.{Node}
use Rattle.tree.specs.declared.nodes.Place.{Place}
use Rattle.tree.specs.declared.nodes.Place.TheVariants as place
use Rattle.tree.specs.declared.nodes.TreeFault.{TreeFault}
use Rattle.tree.specs.declared.nodes.TreeFault.TheVariants as fault
use Rattle.tree.specs.Moves.{IsPathFault}
use Rattle.tree.specs.Places.{Lookup, IsPathOf, IsTree, Leads}
use Rattle.tree.proofs.Climbing.{climbs_alive, path_of_lead}
use Rattle.tree.proofs.LookupLemmas.{cases_option}
use Rattle.table_footprints.specs.declared.gatherings.Reservation.{Reservation}
use Rattle.table_footprints.specs.declared.refusal.FootprintRefusal.{FootprintRefusal}
use Rattle.table_footprints.specs.declared.refusal.FootprintRefusal.TheVariants as refusal
use Rattle.table_footprints.specs.Asked.{HasPath, IsStale, IsUnsound, long, misplaced, no_memory, stale}
use Rattle.table_footprints.specs.Cases.{HasShortPath, IsClosingCase, IsLastOpening, Seen}
use Rattle.table_footprints.specs.Gatherings.{IsClosing, IsClosingPath, IsNothing, IsReservation, IsWanted, IsWithoutPath, TellsPath, refusal_errno, refusal_of}
use Rattle.table_footprints.specs.NewRequests.{IsRefusedRequest}
use Rattle.table_footprints.specs.Footprints.{AtNode, closed_footprint, node_footprint, footprint_of}
use Rattle.table_footprints.proofs.Finding.{location_once, way_or_cut}
use Rattle.table_footprints.proofs.Members.{first_in, none_in, only_in}

-- ---- whether the node has a path that is not too long

module _ (at : Lookup) (tree : IsTree at) (number : ℕ) where
  short_leads : HasShortPath at number → Leads at number
  short_leads short = record { names = reverse short.0; climb = short.1 }

  measured : (path : Names) → IsPathOf at number path → HasShortPath at number ⊎ (HasShortPath at number → ⊥)
  measured path leads = elim (cases_lt 4096 (path_bytes path)) [
    | inl over ↦ inr (λ short.
        let same : short.0 ≡ path = location_once at tree (AtNode number) short.0 path short.1 leads in
        let few : path_bytes path ≤ 4096 = subst (λ (p : Names). path_bytes p ≤ 4096) same short.2 in
        absurd (omega (arith, over, few)))
    | inr fits ↦ inl (path, leads, omega (arith, fits))
  ]

  by_place : (x : Node) → at number ≡ Some x → (p : Place) → x.place ≡ p → HasShortPath at number ⊎ (HasShortPath at number → ⊥)
  by_place x here place.Root e = measured [] (tree.only_root number x here e)
  by_place x here (place.Named key) e = let it = path_of_lead at number (tree.reached number key.parent key.name (x, here, e)) in measured it.0 it.1
  by_place x here place.Cut e = inr (λ short. way_or_cut at number tree (reverse short.0) short.1 x here e)

  short_or_not : HasShortPath at number ⊎ (HasShortPath at number → ⊥)
  short_or_not = elim (cases_option (at number)) [
    | inl none ↦ inr (λ short. let it = climbs_alive at tree.rooted (reverse short.0) number short.1 in none-some it.0 (sym none ∙ it.1))
    | inr (x, here) ↦ by_place x here x.place refl
  ]

  -- ---- whether it is the last handle of a hidden file

  other_count : (files : Files) (total : ℕ) → IsSum files (of_node number) total → (total ≡ 1 → ⊥) → IsLastOpening at files number → ⊥
  other_count files total sum other last = other (sum_once files (of_node number) total 1 sum last.one)

  by_mark : (files : Files) → (number ≡ 1 → ⊥) → (total : ℕ) → IsSum files (of_node number) total → (x : Node) → at number ≡ Some x → IsLastOpening at files number ⊎ (IsLastOpening at files number → ⊥)
  by_mark files below total sum x here = elim (cases_Bool x.hidden) [
    | inl marked ↦ elim (cases_eq total 1) [
      | inl one ↦ inl (record { node = x; here = here; hidden = marked; not_root = below; one = subst (λ n. IsSum files (of_node number) n) one sum })
      | inr other ↦ inr (other_count files total sum other)
    ]
    | inr bare ↦ inr (λ last. false≢true (sym bare ∙ (ap (λ (y : Node). y.hidden) (same_Some x last.node (sym here ∙ last.here)) ∙ last.hidden)))
  ]

  last_or_not : (files : Files) (many : ℕ) → IsSum files (λ file. 1) many → IsLastOpening at files number ⊎ (IsLastOpening at files number → ⊥)
  last_or_not files many sum = elim (cases_eq number 1) [
    | inl root ↦ inr (λ last. last.not_root root)
    | inr below ↦ elim (cases_option (at number)) [
      | inl none ↦ inr (λ last. none-some last.node (sym none ∙ last.here))
      | inr (x, here) ↦
          let total = sum_by (λ k. unwrap_or (option_map (of_node number) (files k)) 0) sum.keys in
          by_mark files below total (record { keys = sum.keys; apart = sum.apart; exact = sum.exact; total_is = refl }) x here
    ]
  ]

  pub closing_there : (files : Files) (many : ℕ) → IsSum files (λ file. 1) many → (c : Case) × IsClosingCase at files number c
  closing_there files many sum = elim short_or_not [
    | inl short ↦ elim (last_or_not files many sum) [ inl last ↦ (cases.Last, (short, last)) | inr other ↦ (cases.Plain, (short, other)) ]
    | inr none ↦ (cases.Pathless, none)
  ]

  -- ---- why it is refused

  rooted : HasShortPath at number → IsStale at (node_footprint number) → ⊥
  rooted short s = s.lost (subst (λ n. Leads at n) (only_in number s.number s.named) (short_leads short))

  no_stale : IsUnsound at (node_footprint number) (refusal_errno refusal.Stale) → HasShortPath at number → ⊥
  no_stale (stale is s) short = rooted short s
  no_stale (long is a s) short = let bad : int_eq ESTALE ENAMETOOLONG ≡ true = (Decides-int_eq ESTALE ENAMETOOLONG).1 is in false≢true bad
  no_stale (misplaced a b bad) short = bad
  no_stale (no_memory is a) short = let bad : int_eq ESTALE ENOMEM ≡ true = (Decides-int_eq ESTALE ENOMEM).1 is in false≢true bad

  no_long : IsUnsound at (node_footprint number) (refusal_errno refusal.TooLong) → HasShortPath at number → ⊥
  no_long (stale is s) short = rooted short s
  no_long (long is a s) short =
      let there = only_in (AtNode number) s.location s.asked in
      let same : s.path ≡ short.0 = location_once at tree (AtNode number) s.path short.0 (subst (λ l. HasPath at l s.path) (sym there) s.leads) short.1 in
      let few : path_bytes s.path ≤ 4096 = subst (λ (p : Names). path_bytes p ≤ 4096) (sym same) short.2 in
      let over = s.long in
      absurd (omega (arith, over, few))
  no_long (misplaced a b bad) short = bad
  no_long (no_memory is a) short = let bad : int_eq ENAMETOOLONG ENOMEM ≡ true = (Decides-int_eq ENAMETOOLONG ENOMEM).1 is in false≢true bad

  pub no_short : (r : FootprintRefusal) → IsWithoutPath r → IsUnsound at (node_footprint number) (refusal_errno r) → HasShortPath at number → ⊥
  no_short r (inl e) unsound = no_stale (subst (λ (q : FootprintRefusal). IsUnsound at (node_footprint number) (refusal_errno q)) e unsound)
  no_short r (inr e) unsound = no_long (subst (λ (q : FootprintRefusal). IsUnsound at (node_footprint number) (refusal_errno q)) e unsound)

  -- the same for the fault of the tree
  pub no_fault : (e : TreeFault) → IsPathFault at number e → TellsPath at number (refusal_of e)
  no_fault fault.Unknown bad told short = let it = climbs_alive at tree.rooted (reverse short.0) number short.1 in none-some it.0 (sym bad ∙ it.1)
  no_fault fault.Cut bad told short = way_or_cut at number tree (reverse short.0) short.1 bad.0 bad.1 bad.2
  no_fault fault.Full bad told short = bad
  no_fault fault.Memory bad (inl e) short = let f : refusal.Memory ≡ refusal.Stale = e in cc
  no_fault fault.Memory bad (inr e) short = let f : refusal.Memory ≡ refusal.TooLong = e in cc
  no_fault fault.PathLong bad told short =
      let same : bad.0 ≡ short.0 = location_once at tree (AtNode number) bad.0 short.0 bad.1 short.1 in
      let few : path_bytes bad.0 ≤ 4096 = subst (λ (p : Names). path_bytes p ≤ 4096) (sym same) short.2 in
      let over = bad.2 in
      omega (arith, over, few)

  starved : (files : Files) (fh : ℕ) (c : Case) → IsClosingCase at files number c → IsUnsound at (footprint_of (wants.Release number fh) c) (refusal_errno refusal.Memory)
  starved files fh cases.Plain fits = no_memory refl (λ s. rooted fits.0 (record { number = s.number; named = s.named; lost = s.lost }))
  starved files fh cases.Absent bad = absurd bad
  starved files fh cases.Pathless none = no_memory refl (λ s. none_in s.number s.named)
  starved files fh cases.Last fits = no_memory refl (λ s. rooted fits.0 (record { number = s.number; named = s.named; lost = s.lost }))
  starved files fh (cases.Hiding n k) bad = absurd bad

-- out of memory
pub closing_refused : (seen : Seen) → IsTree seen.at → (many : ℕ) → IsSum seen.files (λ file. 1) many → (want : Want) (number fh : ℕ) (r : FootprintRefusal) → want ≡ wants.Release number fh → r ≡ refusal.Memory → IsRefusedRequest seen want (refusal_errno r)
closing_refused seen tree many sum want number fh r is starving =
    let it = closing_there seen.at tree number seen.files many sum in
    subst (λ (q : FootprintRefusal). IsRefusedRequest seen want (refusal_errno q)) (sym starving) (subst (λ (v : Want). IsRefusedRequest seen v (refusal_errno refusal.Memory)) (sym is)
    (record { footprint = footprint_of (wants.Release number fh) it.0; footprint_is = record { case = it.0; fits = it.1; footprint = refl }; unsound = starved seen.at tree number seen.files fh it.0 it.1 }))

-- ---- what it reserves

-- the path of the node, as for any node
pub closing_plain : (at : Lookup) (number : ℕ) (t : Reservation) → t.case ≡ cases.Plain → HasShortPath at number → IsReservation at (node_footprint number) t → IsClosingPath at number false t
closing_plain at number t is short reservation = record {
  case_is = is;
  short = short;
  reservation = subst (λ (c : Case). IsReservation at (closed_footprint number c) t) (sym is) reservation;
}

-- or its removal, if it is the last handle
pub closing_path : (at : Lookup) (files : Files) (number : ℕ) (last : Bool) (t : Reservation) → (last ≡ true) ↔ IsLastOpening at files number → IsClosingPath at number last t → IsClosing at files number t
closing_path at files number true t whether is = record { fits = subst (λ (c : Case). IsClosingCase at files number c) (sym is.case_is) (is.short, whether.0 refl); reservation = is.reservation }
closing_path at files number false t whether is = record { fits = subst (λ (c : Case). IsClosingCase at files number c) (sym is.case_is) (is.short, λ last. false≢true (whether.1 last)); reservation = is.reservation }

pub closing_nothing : (at : Lookup) (files : Files) (number : ℕ) (t : Reservation) → IsNothing t → (HasShortPath at number → ⊥) → IsClosing at files number t
closing_nothing at files number t is none = record {
  fits = subst (λ (c : Case). IsClosingCase at files number c) (sym is.case_is) none;
  reservation = subst (λ (c : Case). IsReservation at (closed_footprint number c) t) (sym is.case_is) (is.reservation at);
}

-- the path of the node, if it is not refused
pub short_of : (at : Lookup) (number : ℕ) (t : Reservation) → IsReservation at (node_footprint number) t → HasShortPath at number
short_of at number t reservation =
    let it = reservation.paths in
    elim (cases_lt 4096 (path_bytes it.0)) [
      | inl over ↦ absurd (reservation.sound.not_long (record { location = AtNode number; asked = first_in (AtNode number) []; path = it.0; leads = it.3; long = over }))
      | inr fits ↦ (it.0, it.3, omega (arith, fits))
    ]

pub closing_wanted : (seen : Seen) (want : Want) (number fh : ℕ) (t : Reservation) → want ≡ wants.Release number fh → IsClosing seen.at seen.files number t → IsWanted seen want t
closing_wanted seen want number fh t is it = subst (λ (v : Want). IsWanted seen v t) (sym is) (record {
  fits = it.fits;
  reservation = record {
    sound = record {
      not_stale = λ s. it.reservation.sound.not_stale (record { number = s.number; named = s.named; lost = s.lost });
      not_long = λ s. it.reservation.sound.not_long (record { location = s.location; asked = s.asked; path = s.path; leads = s.leads; long = s.long });
      not_misplaced = it.reservation.sound.not_misplaced;
    };
    holds = record { numbers = it.reservation.holds.numbers; leads = it.reservation.holds.leads; shared = it.reservation.holds.shared; exclusive = it.reservation.holds.exclusive };
    pins = it.reservation.pins;
    paths = it.reservation.paths;
    promise = it.reservation.promise;
    pin_room = it.reservation.pin_room;
    answer_room = it.reservation.answer_room;
    unanswered = it.reservation.unanswered;
    candidates = it.reservation.candidates;
  };
})
