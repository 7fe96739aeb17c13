-- What the footprint of a want reserves, and why it is refused.
use Rattle.std.proofs.Common.{ℕ, ℤ, ◌≡◌, ◌&&◌, Bool, not, List, [], ◌∷◌, Option, Some, Contains, refl, sym, ap, ◌∙◌, subst, ◌⊎◌, inl, inr}
use Rattle.std.specs.Prelude.{IsSome}
use Rattle.std.proofs.lemmas.Bool.{cases_Bool, cases_eq, false≢true}
use Rattle.std.proofs.lemmas.Option.{none-some, same_Some}
use Rattle.paths.specs.Prefixes.{Name, Names, is_name}
use Rattle.paths.proofs.PrefixLemmas.{is_name-true, is_name-yes}
use Rattle.table_requests.specs.declared.data.Case.{Case}
use Rattle.table_requests.specs.declared.data.Case.TheVariants as cases
use Rattle.table_requests.specs.declared.data.Want.{Want}
use Rattle.table_requests.specs.declared.data.Want.TheVariants as wants
use Rattle.table_requests.specs.declared.data.Work.{Work}
use Rattle.table_requests.specs.Roomy.{Pinned}
use Rattle.tree.specs.declared.nodes.Key.{Key}
use Rattle.tree.specs.declared.nodes.Node.{Node}
use Rattle.tree.specs.declared.nodes.Place.{Place}
use Rattle.tree.specs.declared.nodes.Place.TheVariants as place
use Rattle.tree.specs.Places.{Lookup, IsCensus, IsFree, IsNamed, IsTree}
use Rattle.tree.proofs.LookupLemmas.{cases_option}
use Rattle.table_files.specs.declared.data.Access.{Access}
use Rattle.table_requests.specs.declared.data.Handle.{Handle}
use Rattle.table_requests.specs.declared.data.Promise.{Promise}
use Rattle.table_footprints.specs.Asked.{IsLong, IsSound, IsStale, IsUnsound, long, misplaced, no_memory, stale}
use Rattle.table_footprints.specs.Cases.{IsCase, IsEntryCase, IsHidingCase, Seen}
use Rattle.table_footprints.specs.declared.data.NewRequest.{NewRequest}
use Rattle.table_footprints.specs.declared.gatherings.Reservation.{Reservation}
use Rattle.table_footprints.specs.Gatherings.{IsEntryAt, IsTaken, IsRecord, IsReservation, HasNoNode, IsWanted}
use Rattle.table_footprints.specs.NewRequests.{IsNewRequest, IsRefusedRequest, copied, copied_page}
use Rattle.table_footprints.specs.Footprints.{Footprint, AtName, AtNode, Opening, Used, are_same, exchange_footprint, hidden_in, link_footprint, move_footprint, name_footprint, node_footprint, removal_footprint, footprint_of, used_on}
use Rattle.table_footprints.proofs.Members.{all_in, any_cases, any_only, cases_in, first_in, later_in, none_in}

-- ---- whether a name has a node

-- the name of the node, or another
named_so : (x : Place) (parent : ℕ) (name : Name) → (x ≡ place.Named (record { parent = parent; name = name })) ⊎ (x ≡ place.Named (record { parent = parent; name = name }) → ⊥)
named_so place.Root parent name = inr (λ e. cc)
named_so place.Cut parent name = inr (λ e. cc)
named_so (place.Named key) parent name = elim (cases_eq key.parent parent) [
  | inl under ↦ elim (cases_Bool (is_name key.name name)) [
    | inl yes' ↦
        let spelt : key.name ≡ name = is_name-true key.name name yes' in
        inl (ap (λ (p : ℕ). place.Named (record { parent = p; name = key.name })) under ∙ ap (λ (n : Name). place.Named (record { parent = parent; name = n })) spelt)
    | inr no' ↦ inr (λ e.
        let same : key ≡ record { parent = parent; name = name } = cc in
        false≢true (sym no' ∙ is_name-yes key.name name (ap (λ (k : Key). k.name) same)))
  ]
  | inr elsewhere ↦ inr (λ e.
      let same : key ≡ record { parent = parent; name = name } = cc in
      elsewhere (ap (λ (k : Key). k.parent) same))
]

there : (at : Lookup) (k parent : ℕ) (name : Name) → IsNamed at k parent name ⊎ (IsNamed at k parent name → ⊥)
there at k parent name = elim (cases_option (at k)) [
  | inl none ↦ inr (λ named. none-some named.0 (sym none ∙ named.1))
  | inr (x, stood) ↦ elim (named_so x.place parent name) [
    | inl here ↦ inl (x, stood, here)
    | inr other ↦ inr (λ named. other (ap (λ (z : Node). z.place) (same_Some x named.0 (sym stood ∙ named.1)) ∙ named.2))
  ]
]

among : (at : Lookup) (ks : List ℕ) (parent : ℕ) (name : Name)
    → ((n : ℕ) × Contains ks n × IsNamed at n parent name) ⊎ ((n : ℕ) → Contains ks n → IsNamed at n parent name → ⊥)
among at [] parent name = inr (λ n h named. none_in n h)
among at (k ∷ ks) parent name = elim (there at k parent name) [
  | inl named ↦ inl (k, first_in k ks, named)
  | inr other ↦ elim (among at ks parent name) [
    | inl it ↦ inl (it.0, later_in k ks it.0 it.1, it.2)
    | inr none ↦ inr (λ n h named. elim (cases_in k ks n h) [ inl same ↦ other (subst (λ m. IsNamed at m parent name) (sym same) named) | inr more ↦ none n more named ])
  ]
]

pub named_or_free : (at : Lookup) (living counts : ℕ) → IsTree at → IsCensus at living counts → (parent : ℕ) (name : Name) → ((n : ℕ) × IsNamed at n parent name) ⊎ IsFree at parent name
named_or_free at living counts tree census parent name = elim (among at census.living_is.keys parent name) [
  | inl it ↦ inl (it.0, it.2)
  | inr none ↦ inr (λ n named. none n ((census.living_is.exact n).1 (subst (λ (o : Option Node). IsSome o) (sym named.1) refl)) named)
]

-- ---- cases

pub entry_case : (at : Lookup) (parent : ℕ) (name : Name) (c : Case) → IsEntryAt at (AtName parent name ∷ []) c → IsEntryCase at parent name c
entry_case at parent name cases.Plain all = all_in (IsTaken at) (AtName parent name ∷ []) (AtName parent name) all (first_in (AtName parent name) [])
entry_case at parent name cases.Absent any = any_only (HasNoNode at) (AtName parent name) any
entry_case at parent name cases.Pathless bad = absurd bad
entry_case at parent name cases.Last bad = absurd bad
entry_case at parent name (cases.Hiding n k) bad = absurd bad

-- a name for which an entry may be given has a case
pub entry_there : (at : Lookup) (living counts : ℕ) → IsTree at → IsCensus at living counts → (parent : ℕ) (name : Name) → (c : Case) × IsEntryCase at parent name c
entry_there at living counts tree census parent name = elim (named_or_free at living counts tree census parent name) [ inl named ↦ (cases.Plain, named) | inr free ↦ (cases.Absent, free) ]

-- a want that has a case is refused if each case is
pub refused_as : (seen : Seen) (want w : Want) (e : ℤ) → want ≡ w → (c : Case) × IsCase seen w c → ((c : Case) → IsUnsound seen.at (footprint_of w c) e) → IsRefusedRequest seen want e
refused_as seen want w e is it unsound =
    subst (λ (v : Want). IsRefusedRequest seen v e) (sym is) (record { footprint = footprint_of w it.0; footprint_is = record { case = it.0; fits = it.1; footprint = refl }; unsound = unsound it.0 })

-- no test of the nodes depends on the open file that a footprint uses
sound_using : (at : Lookup) (d : Footprint) (u : Option Used) → IsSound at d → IsSound at (record d { used = u })
sound_using at d u sound = record {
  not_stale = λ s. sound.not_stale (record { number = s.number; named = s.named; lost = s.lost });
  not_long = λ s. sound.not_long (record { location = s.location; asked = s.asked; path = s.path; leads = s.leads; long = s.long });
  not_misplaced = sound.not_misplaced;
}

not_stale_using : (at : Lookup) (d : Footprint) (u : Option Used) → (IsStale at d → ⊥) → IsStale at (record d { used = u }) → ⊥
not_stale_using at d u none s = none (record { number = s.number; named = s.named; lost = s.lost })

not_long_using : (at : Lookup) (d : Footprint) (u : Option Used) → (IsLong at d → ⊥) → IsLong at (record d { used = u }) → ⊥
not_long_using at d u none s = none (record { location = s.location; asked = s.asked; path = s.path; leads = s.leads; long = s.long })

unsound_using : (at : Lookup) (d : Footprint) (u : Option Used) (e : ℤ) → IsUnsound at d e → IsUnsound at (record d { used = u }) e
unsound_using at d u e (stale is s) = stale is (record { number = s.number; named = s.named; lost = s.lost })
unsound_using at d u e (long is a s) = long is (not_stale_using at d u a) (record { location = s.location; asked = s.asked; path = s.path; leads = s.leads; long = s.long })
unsound_using at d u e (misplaced a b bad) = misplaced (not_stale_using at d u a) (not_long_using at d u b) bad
unsound_using at d u e (no_memory is a) = no_memory is (not_stale_using at d u a)

terms_using : (at : Lookup) (d : Footprint) (u : Option Used) (t : Reservation) → IsReservation at d t → IsReservation at (record d { used = u }) t
terms_using at d u t reservation = record {
  sound = sound_using at d u reservation.sound;
  holds = record { numbers = reservation.holds.numbers; leads = reservation.holds.leads; shared = reservation.holds.shared; exclusive = reservation.holds.exclusive };
  pins = reservation.pins;
  paths = reservation.paths;
  promise = reservation.promise;
  pin_room = reservation.pin_room;
  answer_room = reservation.answer_room;
  unanswered = reservation.unanswered;
  candidates = reservation.candidates;
}

pub node_wanted : (seen : Seen) (want : Want) (number : ℕ) (handle : Option Handle) (t : Reservation) → want ≡ wants.Node number handle → t.case ≡ cases.Plain → IsReservation seen.at (node_footprint number) t → IsWanted seen want t
node_wanted seen want number handle t is fits reservation =
    subst (λ (v : Want). IsWanted seen v t) (sym is) (record { fits = fits; reservation = terms_using seen.at (node_footprint number) (used_on number handle) t reservation })

pub node_refused : (seen : Seen) (want : Want) (number : ℕ) (handle : Option Handle) (e : ℤ) → want ≡ wants.Node number handle → IsUnsound seen.at (node_footprint number) e → IsRefusedRequest seen want e
node_refused seen want number handle e is unsound =
    refused_as seen want (wants.Node number handle) e is (cases.Plain, refl) (λ c. unsound_using seen.at (node_footprint number) (used_on number handle) e unsound)

-- no test of the nodes depends on the file that a footprint opens
stale_opening : (at : Lookup) (d : Footprint) (o : Option Opening) → (IsStale at d → ⊥) → IsStale at (record d { opens = o }) → ⊥
stale_opening at d o none s = none (record { number = s.number; named = s.named; lost = s.lost })

long_opening : (at : Lookup) (d : Footprint) (o : Option Opening) → (IsLong at d → ⊥) → IsLong at (record d { opens = o }) → ⊥
long_opening at d o none s = none (record { location = s.location; asked = s.asked; path = s.path; leads = s.leads; long = s.long })

pub unsound_opening : (at : Lookup) (d : Footprint) (o : Option Opening) (e : ℤ) → IsUnsound at d e → IsUnsound at (record d { opens = o }) e
unsound_opening at d o e (stale is s) = stale is (record { number = s.number; named = s.named; lost = s.lost })
unsound_opening at d o e (long is a s) = long is (stale_opening at d o a) (record { location = s.location; asked = s.asked; path = s.path; leads = s.leads; long = s.long })
unsound_opening at d o e (misplaced a b bad) = misplaced (stale_opening at d o a) (long_opening at d o b) bad
unsound_opening at d o e (no_memory is a) = no_memory is (stale_opening at d o a)

-- one file is promised in addition
abbrev pub opening_one : Reservation → Reservation
opening_one t = record t { promise = record t.promise { files = 1 } }

terms_opening : (at : Lookup) (d : Footprint) (o : Opening) (t : Reservation) → IsReservation at d t → IsReservation at (record d { opens = Some o }) (opening_one t)
terms_opening at d o t reservation = record {
  sound = record { not_stale = stale_opening at d (Some o) reservation.sound.not_stale; not_long = long_opening at d (Some o) reservation.sound.not_long; not_misplaced = reservation.sound.not_misplaced };
  holds = record { numbers = reservation.holds.numbers; leads = reservation.holds.leads; shared = reservation.holds.shared; exclusive = reservation.holds.exclusive };
  pins = reservation.pins;
  paths = reservation.paths;
  promise = ap (λ (p : Promise). let q : Promise = record p { files = 1 } in q) reservation.promise;
  pin_room = reservation.pin_room;
  answer_room = reservation.answer_room;
  unanswered = reservation.unanswered;
  candidates = reservation.candidates;
}

pub node_opened : (seen : Seen) (want : Want) (number : ℕ) (access : Access) (t u : Reservation) → want ≡ wants.Open number access → t.case ≡ cases.Plain → IsReservation seen.at (node_footprint number) t → u ≡ opening_one t → IsWanted seen want u
node_opened seen want number access t u is fits reservation made = subst (λ (v : Reservation). IsWanted seen want v) (sym made) (subst (λ (v : Want). IsWanted seen v (opening_one t)) (sym is) (record {
  fits = fits;
  reservation = terms_opening seen.at (node_footprint number) (record { target = AtNode number; access = access }) t reservation;
}))

pub name_opened : (seen : Seen) (want : Want) (parent : ℕ) (name : Name) (access : Access) (t u : Reservation) → want ≡ wants.Create parent name access → IsEntryAt seen.at (AtName parent name ∷ []) t.case
    → IsReservation seen.at (name_footprint parent name t.case) t → u ≡ opening_one t → IsWanted seen want u
name_opened seen want parent name access t u is fits reservation made = subst (λ (v : Reservation). IsWanted seen want v) (sym made) (subst (λ (v : Want). IsWanted seen v (opening_one t)) (sym is) (record {
  fits = entry_case seen.at parent name t.case fits;
  reservation = terms_opening seen.at (name_footprint parent name t.case) (record { target = AtName parent name; access = access }) t reservation;
}))

-- a name for which an entry may be given
pub named_wanted : (seen : Seen) (want : Want) (parent : ℕ) (name : Name) (t : Reservation) → want ≡ wants.Name parent name → IsEntryAt seen.at (AtName parent name ∷ []) t.case → IsReservation seen.at (name_footprint parent name t.case) t → IsWanted seen want t
named_wanted seen want parent name t is fits reservation = subst (λ (v : Want). IsWanted seen v t) (sym is) (record { fits = entry_case seen.at parent name t.case fits; reservation = reservation })

-- A further name of a node: a node is there, so if one of the two places has none, it is the name.
link_case : (at : Lookup) (number parent : ℕ) (name : Name) (c : Case) → IsEntryAt at (AtNode number ∷ AtName parent name ∷ []) c → IsEntryCase at parent name c
link_case at number parent name cases.Plain all =
    all_in (IsTaken at) (AtNode number ∷ AtName parent name ∷ []) (AtName parent name) all (later_in (AtNode number) (AtName parent name ∷ []) (AtName parent name) (first_in (AtName parent name) []))
link_case at number parent name cases.Absent any = elim (any_cases (HasNoNode at) (AtNode number) (AtName parent name ∷ []) any) [
  | inl none ↦ absurd (none number refl)
  | inr free ↦ any_only (HasNoNode at) (AtName parent name) free
]
link_case at number parent name cases.Pathless bad = absurd bad
link_case at number parent name cases.Last bad = absurd bad
link_case at number parent name (cases.Hiding n k) bad = absurd bad

pub link_wanted : (seen : Seen) (want : Want) (number parent : ℕ) (name : Name) (t : Reservation) → want ≡ wants.Link number parent name → IsEntryAt seen.at (AtNode number ∷ AtName parent name ∷ []) t.case
    → IsReservation seen.at (link_footprint number parent name t.case) t → IsWanted seen want t
link_wanted seen want number parent name t is fits reservation = subst (λ (v : Want). IsWanted seen v t) (sym is) (record { fits = link_case seen.at number parent name t.case fits; reservation = reservation })

pub removal_wanted : (seen : Seen) (want : Want) (parent : ℕ) (name : Name) (may_hide : Bool) (t : Reservation) → want ≡ wants.Remove parent name may_hide
    → IsHidingCase seen parent name may_hide t.case → IsReservation seen.at (removal_footprint parent name (hidden_in t.case)) t → IsWanted seen want t
removal_wanted seen want parent name may_hide t is fits reservation = subst (λ (v : Want). IsWanted seen v t) (sym is) (record { fits = fits; reservation = reservation })

pub removal_refused : (seen : Seen) (want : Want) (parent : ℕ) (name : Name) (may_hide : Bool) (e : ℤ) (c : Case) → want ≡ wants.Remove parent name may_hide
    → IsHidingCase seen parent name may_hide c → IsUnsound seen.at (removal_footprint parent name (hidden_in c)) e → IsRefusedRequest seen want e
removal_refused seen want parent name may_hide e c is fits unsound =
    subst (λ (v : Want). IsRefusedRequest seen v e) (sym is) (record { footprint = removal_footprint parent name (hidden_in c); footprint_is = record { case = c; fits = fits; footprint = refl }; unsound = unsound })

-- what is at the target of a move may be hidden if the source is a different name and the target need not be kept
module _ (seen : Seen) (want : Want) (parent : ℕ) (name : Name) (new_parent : ℕ) (new_name : Name) (keep may_hide : Bool)
    (is : want ≡ wants.Move parent name new_parent new_name keep) (apart : may_hide ≡ (not keep && not (are_same (AtName parent name) (AtName new_parent new_name)))) where
  pub move_wanted : (t : Reservation) → IsHidingCase seen new_parent new_name may_hide t.case → IsReservation seen.at (move_footprint parent name new_parent new_name (hidden_in t.case)) t → IsWanted seen want t
  move_wanted t fits reservation =
      subst (λ (v : Want). IsWanted seen v t) (sym is) (record { fits = subst (λ (b : Bool). IsHidingCase seen new_parent new_name b t.case) apart fits; reservation = reservation })

  pub move_refused : (e : ℤ) (c : Case) → IsHidingCase seen new_parent new_name may_hide c → IsUnsound seen.at (move_footprint parent name new_parent new_name (hidden_in c)) e → IsRefusedRequest seen want e
  move_refused e c fits unsound = subst (λ (v : Want). IsRefusedRequest seen v e) (sym is) (record {
    footprint = move_footprint parent name new_parent new_name (hidden_in c);
    footprint_is = record { case = c; fits = subst (λ (b : Bool). IsHidingCase seen new_parent new_name b c) apart fits; footprint = refl };
    unsound = unsound;
  })

-- an exchange has only one case
module _ (seen : Seen) (want : Want) (parent : ℕ) (name : Name) (new_parent : ℕ) (new_name : Name) (is : want ≡ wants.Exchange parent name new_parent new_name) where
  pub exchange_wanted : (t : Reservation) → t.case ≡ cases.Plain → IsReservation seen.at (exchange_footprint parent name new_parent new_name) t → IsWanted seen want t
  exchange_wanted t fits reservation = subst (λ (v : Want). IsWanted seen v t) (sym is) (record { fits = fits; reservation = reservation })

  pub exchange_refused : (e : ℤ) → IsUnsound seen.at (exchange_footprint parent name new_parent new_name) e → IsRefusedRequest seen want e
  exchange_refused e unsound = refused_as seen want (wants.Exchange parent name new_parent new_name) e is (cases.Plain, refl) (λ c. unsound)

-- the record of a request, as the footprint of its want asks for it
pub planned : (seen : Seen) (want : Want) (t : Reservation) (p : NewRequest) → IsWanted seen want t → IsRecord want t p → IsNewRequest seen want p
planned seen want t p wanted made =
    let footprint : (w : Work) → w ≡ record { want = want; case = t.case; copy = copied want; candidates = hidden_in t.case; copies = copied_page want t.case; held = t.held; promise = t.promise; answer = t.answer } → IsNewRequest seen want (record { work = w; pins = t.pins; paths = t.paths })
    = λ w is. subst (λ (v : Work). IsNewRequest seen want (record { work = v; pins = t.pins; paths = t.paths })) (sym is) (record {
      want_is = refl;
      fits = wanted.fits;
      sound = wanted.reservation.sound;
      holds = wanted.reservation.holds;
      pins = wanted.reservation.pins;
      paths = wanted.reservation.paths;
      provided = record {
        promise = wanted.reservation.promise;
        copy = refl;
        candidates = refl;
        copies = refl;
        pin_room = wanted.reservation.pin_room;
        answer_room = wanted.reservation.answer_room;
        unanswered = wanted.reservation.unanswered;
      };
    }) in
    subst (λ (pins : Pinned). IsNewRequest seen want (record { work = p.work; pins = pins; paths = p.paths })) (sym made.pins)
    (subst (λ (paths : List Names). IsNewRequest seen want (record { work = p.work; pins = t.pins; paths = paths })) (sym made.paths) (footprint p.work made.work))
