-- What a request may do after its work has ended: each node that it names has a path, and no other holds its names
-- exclusively.
use Rattle.std.proofs.Common.{ℕ, ◌*◌, ◌≡◌, ◌==◌, if◌then◌else◌, Bool, true, false, List, [], ◌∷◌, All, Contains, Option, Some, None, length, reverse, refl, sym, ap, ◌∙◌, subst, ◌⊎◌, inl, inr, arith, ◌≤◌, ◌+◌}
use Rattle.std.specs.Prelude.{map, option_map}
use Rattle.std.proofs.lemmas.Bool.{false≢true, true≢false}
use Rattle.std.proofs.lemmas.List.{length-map}
use Rattle.std.proofs.lemmas.Option.{none-some, same_Some}
use Rattle.table_files.specs.declared.data.Access.{Access}
use Rattle.std.proofs.lemmas.List.Elements.{All-contains}
use Rattle.paths.specs.Prefixes.{Name, Names}
use Rattle.paths.proofs.PrefixLemmas.{is_prefix-same}
use Rattle.holds.specs.Conflicts.{Conflict}
use Rattle.holds.specs.declared.held.Held.{Held}
use Rattle.holds.specs.declared.held.GivenPath.{GivenPath}
use Rattle.table_requests.specs.declared.data.Promise.{Promise}
use Rattle.table_files.specs.Handles.{Files}
use Rattle.table_requests.specs.declared.data.Case.{Case}
use Rattle.table_requests.specs.declared.data.Case.TheVariants as cases
use Rattle.table_requests.specs.declared.data.Want.{Want}
use Rattle.table_requests.specs.declared.data.Want.TheVariants as wants
use Rattle.table_requests.specs.declared.data.Work.{Work as RecordedWork}
use Rattle.table_requests.specs.Listed.{requests_of}
use Rattle.table_requests.specs.RequestMaps.{is_working, most_posted}
use Rattle.tree.specs.declared.nodes.Key.{Key}
use Rattle.tree.specs.Places.{Lookup, IsNamed, IsPathOf, Leads, at_in}
use Rattle.table_footprints.specs.Asked.{Holds, IsPrefixAt, promise_of}
use Rattle.table_footprints.specs.Cases.{IsCase, IsClosingCase, Seen}
use Rattle.table_footprints.specs.Laws.{AreOwn, IsGrounded, base_of}
use Rattle.table_footprints.specs.NewRequests.{footprint_in}
use Rattle.table_footprints.specs.Footprints.{AtName, AtNode, Change, Footprint, Opening, closed_exclusive, cuts, exchanges, hidden_in, hides, moves, names_under, page_keys, replaces, footprint_of, stays}
use Rattle.table_footprints.proofs.Members.{any_in, cases_in, first_in, in_map, later_in, none_in, only_in}
use Rattle.table_footprints.proofs.FootprintLemmas.{are_grounded}
use Rattle.table_steps.specs.declared.state.State.{State}
use Rattle.table_steps.specs.Ending.{AreUnder, AreUnowned, IsEnding, LeadsTo, MayAlter, MayEnter, MayFill, folders_of, name_at}
use Rattle.table_steps.specs.Kept.{IsKept, flight_of, flights_in}
use Rattle.table_steps.specs.Laws.{IsPlaced}
use Rattle.table_steps.specs.Steps.{HoldsUp, HasExclusiveHolder, opened_alone}
use Rattle.table_steps.specs.World.{RequestsInFlight, IsStanding}
use Rattle.table_steps.proofs.Guarding.{not_empty}
use Rattle.table_steps.proofs.Viewed.{are_kept}
use Rattle.table_steps.proofs.Few.{none_dropped}
use Rattle.terms.specs.declared.limits.Counts.TheVariants.{Free}
use Rattle.table_requests.specs.declared.data.Stage.{Stage as Recording}

-- ---- footprints

-- a name for which an entry may be given is under a given node
pub entries_under : (want : Want) (c : Case) (key : Key) → Contains (footprint_of want c).entries key → Contains (footprint_of want c).given key.parent
entries_under (wants.Node number handle) c key h = absurd (none_in key h)
entries_under (wants.Name parent name) c key h = subst (λ (k : Key). Contains (parent ∷ []) k.parent) (only_in (record { parent = parent; name = name }) key h) (first_in parent [])
entries_under (wants.Remove parent name may_hide) c key h = absurd (none_in key h)
entries_under (wants.Move parent name new_parent new_name keep) c key h = absurd (none_in key h)
entries_under (wants.Exchange parent name new_parent new_name) c key h = absurd (none_in key h)
entries_under (wants.Page folder names) c key h =
    let it = in_map (λ (name : Name). let k : Key = record { parent = folder; name = name } in k) names key h in
    subst (λ (k : Key). Contains (folder ∷ []) k.parent) it.2 (first_in folder [])
entries_under (wants.Open number access) c key h = absurd (none_in key h)
entries_under (wants.Create parent name access) c key h = subst (λ (k : Key). Contains (parent ∷ []) k.parent) (only_in (record { parent = parent; name = name }) key h) (first_in parent [])
entries_under (wants.Release number fh) c key h = absurd (none_in key h)
entries_under (wants.Link number parent name) c key h =
    later_in number (parent ∷ []) key.parent (subst (λ (k : Key). Contains (parent ∷ []) k.parent) (only_in (record { parent = parent; name = name }) key h) (first_in parent []))

-- and is shared, unless it is a name of a page
entries_shared : (want : Want) (c : Case) → (footprint_of want c).page ≡ false → (key : Key) → Contains (footprint_of want c).entries key → Contains (footprint_of want c).shared (name_at key)
entries_shared (wants.Node number handle) c one key h = absurd (none_in key h)
entries_shared (wants.Name parent name) c one key h = subst (λ (k : Key). Contains (AtName parent name ∷ []) (name_at k)) (only_in (record { parent = parent; name = name }) key h) (first_in (AtName parent name) [])
entries_shared (wants.Remove parent name may_hide) c one key h = absurd (none_in key h)
entries_shared (wants.Move parent name new_parent new_name keep) c one key h = absurd (none_in key h)
entries_shared (wants.Exchange parent name new_parent new_name) c one key h = absurd (none_in key h)
entries_shared (wants.Page folder names) c one key h = absurd (true≢false one)
entries_shared (wants.Open number access) c one key h = absurd (none_in key h)
entries_shared (wants.Create parent name access) c one key h = subst (λ (k : Key). Contains (AtName parent name ∷ []) (name_at k)) (only_in (record { parent = parent; name = name }) key h) (first_in (AtName parent name) [])
entries_shared (wants.Release number fh) c one key h = absurd (none_in key h)
entries_shared (wants.Link number parent name) c one key h =
    later_in (AtNode number) (AtName parent name ∷ []) (name_at key) (subst (λ (k : Key). Contains (AtName parent name ∷ []) (name_at k)) (only_in (record { parent = parent; name = name }) key h) (first_in (AtName parent name) []))

-- a node is promised for each name of a page
page_births : (want : Want) (c : Case) → (footprint_of want c).page ≡ true → (footprint_of want c).births ≡ length (footprint_of want c).entries
page_births (wants.Node number handle) c page = refl
page_births (wants.Name parent name) c page = absurd (false≢true page)
page_births (wants.Remove parent name may_hide) c page = refl
page_births (wants.Move parent name new_parent new_name keep) c page = refl
page_births (wants.Exchange parent name new_parent new_name) c page = refl
page_births (wants.Page folder names) c page = sym (length-map names (λ (name : Name). let k : Key = record { parent = folder; name = name } in k))
page_births (wants.Open number access) c page = refl
page_births (wants.Create parent name access) c page = absurd (false≢true page)
page_births (wants.Release number fh) c page = refl
page_births (wants.Link number parent name) c page = absurd (false≢true page)

name_else : (parent : ℕ) (name : Name) → AtName parent name ≡ AtNode 1 → ⊥
name_else parent name e = cc

beside_else : (parent : ℕ) (name : Name) (hidden : List Name) → Contains (AtName parent name ∷ names_under parent hidden) (AtNode 1) → ⊥
beside_else parent name hidden h = elim (cases_in (AtName parent name) (names_under parent hidden) (AtNode 1) h) [
  | inl e ↦ name_else parent name e
  | inr more ↦ let it = in_map (λ (x : Name). AtName parent x) hidden (AtNode 1) more in name_else parent it.0 it.2
]

-- a hidden file is not the root
closing_placed : (at : Lookup) (files : Files) (number : ℕ) (c : Case) → IsClosingCase at files number c → IsPlaced (closed_exclusive number c)
closing_placed at files number cases.Plain fits h = none_in (AtNode 1) h
closing_placed at files number cases.Absent fits h = none_in (AtNode 1) h
closing_placed at files number cases.Pathless fits h = none_in (AtNode 1) h
closing_placed at files number cases.Last fits h = fits.1.not_root (ap base_of (only_in (AtNode number) (AtNode 1) h))
closing_placed at files number (cases.Hiding n k) fits h = none_in (AtNode 1) h

-- the root's path is not held exclusively
pub rows_placed : (seen : Seen) (want : Want) (c : Case) → IsCase seen want c → IsPlaced (footprint_of want c).exclusive
rows_placed seen (wants.Node number handle) c fits h = none_in (AtNode 1) h
rows_placed seen (wants.Name parent name) c fits h = none_in (AtNode 1) h
rows_placed seen (wants.Remove parent name may_hide) c fits h = beside_else parent name (hidden_in c) h
rows_placed seen (wants.Page folder names) c fits h = none_in (AtNode 1) h
rows_placed seen (wants.Move parent name new_parent new_name keep) c fits h = elim (cases_in (AtName parent name) (AtName new_parent new_name ∷ names_under new_parent (hidden_in c)) (AtNode 1) h) [
  | inl e ↦ name_else parent name e
  | inr more ↦ beside_else new_parent new_name (hidden_in c) more
]
rows_placed seen (wants.Exchange parent name new_parent new_name) c fits h = elim (cases_in (AtName parent name) (AtName new_parent new_name ∷ []) (AtNode 1) h) [
  | inl e ↦ name_else parent name e
  | inr more ↦ beside_else new_parent new_name [] more
]
rows_placed seen (wants.Open number access) c fits h = none_in (AtNode 1) h
rows_placed seen (wants.Create parent name access) c fits h = none_in (AtNode 1) h
rows_placed seen (wants.Release number fh) c fits h = closing_placed seen.at seen.files number c fits h
rows_placed seen (wants.Link number parent name) c fits h = none_in (AtNode 1) h

-- if no file is opened, none is opened without an entry
pub none_alone : (b : Bool) (o : Option Opening) → o ≡ None → (if b then o else None) ≡ None
none_alone true o none = none
none_alone false o none = refl

-- a file that is opened without an entry is that of a given node
pub node_given : (want : Want) (c : Case) (number : ℕ) (access : Access) → Some (record { target = AtNode number; access = access }) ≡ opened_alone (footprint_of want c) → Contains (footprint_of want c).given number
node_given (wants.Node n handle) c number access e = absurd (none-some _ (sym e))
node_given (wants.Name parent name) c number access e = absurd (none-some _ (sym e))
node_given (wants.Remove parent name may_hide) c number access e = absurd (none-some _ (sym e))
node_given (wants.Move parent name new_parent new_name keep) c number access e = absurd (none-some _ (sym e))
node_given (wants.Exchange parent name new_parent new_name) c number access e = absurd (none-some _ (sym e))
node_given (wants.Page folder names) c number access e = absurd (none-some _ (sym (e ∙ none_alone (length (page_keys folder names) == 0) None refl)))
node_given (wants.Open n a) c number access e =
    let one : Opening = record { target = AtNode number; access = access } in
    let two : Opening = record { target = AtNode n; access = a } in
    let same : number ≡ n = ap base_of (ap (λ (o : Opening). o.target) (same_Some one two e)) in
    subst (λ k. Contains (n ∷ []) k) (sym same) (first_in n [])
node_given (wants.Create parent name a) c number access e = absurd (none-some _ (sym e))
node_given (wants.Release n fh) c number access e = absurd (none-some _ (sym e))
node_given (wants.Link n parent name) c number access e = absurd (none-some _ (sym e))

-- ---- paths

-- a given node has a path
given_path : (at : Lookup) (d : Footprint) (held : Held) → Holds at d held → (n : ℕ) → Contains d.given n → (p : Names) × IsPathOf at n p
given_path at d held holds n given =
    let it = in_map (λ (lead : GivenPath). lead.number) held.given n (subst (λ ns. Contains ns n) (sym holds.numbers) given) in
    let leads : IsPathOf at it.0.number it.0.path = All-contains (λ (lead : GivenPath). IsPathOf at lead.number lead.path) held.given it.0 holds.leads it.1 in
    (it.0.path, subst (λ k. IsPathOf at k it.0.path) it.2 leads)

pub given_leads : (at : Lookup) (d : Footprint) (held : Held) → Holds at d held → (n : ℕ) → Contains d.given n → Leads at n
given_leads at d held holds n given = let up = given_path at d held holds n given in record { names = reverse up.0; climb = up.1 }

-- so the changing names are under nodes that have one
pub own_leads : (at : Lookup) (d : Footprint) (held : Held) → IsGrounded d → Holds at d held → (change : Change) → AreOwn d.exclusive change → AreUnder (Leads at) change
own_leads at d held grounded holds stays own = tt
own_leads at d held grounded holds (cuts l) own = given_leads at d held holds (base_of l) (grounded.exclusive l own)
own_leads at d held grounded holds (moves s t) own = (given_leads at d held holds (base_of s) (grounded.exclusive s own.0), given_leads at d held holds (base_of t) (grounded.exclusive t own.1))
own_leads at d held grounded holds (exchanges s t) own = (given_leads at d held holds (base_of s) (grounded.exclusive s own.0), given_leads at d held holds (base_of t) (grounded.exclusive t own.1))
own_leads at d held grounded holds (hides l c) own = (given_leads at d held holds (base_of l) (grounded.exclusive l own.0), given_leads at d held holds (base_of c) (grounded.exclusive c own.1))
own_leads at d held grounded holds (replaces s t c moved) own =
    (given_leads at d held holds (base_of s) (grounded.exclusive s own.0), given_leads at d held holds (base_of t) (grounded.exclusive t own.1), given_leads at d held holds (base_of c) (grounded.exclusive c own.2))

-- ---- a path that is shared is not held exclusively

pub unowned : (at : Lookup) (flights : RequestsInFlight) (d : Footprint) (held : Held) (key : Key) → Holds at d held → (HoldsUp flights held → ⊥) → Contains d.shared (name_at key) → HasExclusiveHolder at flights key → ⊥
unowned at flights d held key holds clear shared o =
    let some : o.path ≡ [] → ⊥ = λ e. not_empty o.leads.above key.name (sym o.leads.whole ∙ e) in
    let prefix : IsPrefixAt at o.path (name_at key) = record { path = o.path; leads = o.leads; begins = record { some = some; begins = is_prefix-same o.path } } in
    let mine : Contains held.shared o.path = (holds.shared o.path).1 (inl (any_in (IsPrefixAt at o.path) d.shared (name_at key) shared prefix)) in
    let conflict : Conflict o.work.held held = inl (inr (o.exclusive.0, o.path, o.exclusive.1, o.exclusive.2, mine)) in
    clear (record { id = o.id; flight = o.flight; work = o.work; here = o.here; conflict = conflict })

-- ---- the folder of a page

lead_only : (at : Lookup) (given : List GivenPath) (number : ℕ) → map (λ (lead : GivenPath). lead.number) given ≡ number ∷ [] → All (λ (lead : GivenPath). IsPathOf at lead.number lead.path) given → LeadsTo at given number
lead_only at [] number e leads = absurd (omega (arith, ap {B = ℕ} length e))
lead_only at (lead ∷ []) number e leads =
    let one : number ≡ lead.number = only_in number lead.number (subst (λ ns. Contains ns lead.number) e (first_in lead.number [])) in
    record { lead = lead; only = refl; leads = subst (λ n. IsPathOf at n lead.path) (sym one) (leads 0 lead (omega arith)) }
lead_only at (lead ∷ more ∷ given) number e leads = absurd (omega (arith, ap {B = ℕ} length e))

lead_of : (at : Lookup) (want : Want) (c : Case) (held : Held) → Holds at (footprint_of want c) held → (n : ℕ) → Contains (folders_of (footprint_of want c)) n → LeadsTo at held.given n
lead_of at (wants.Node number handle) c held holds n h = absurd (none_in n h)
lead_of at (wants.Name parent name) c held holds n h = absurd (none_in n h)
lead_of at (wants.Remove parent name may_hide) c held holds n h = absurd (none_in n h)
lead_of at (wants.Move parent name new_parent new_name keep) c held holds n h = absurd (none_in n h)
lead_of at (wants.Exchange parent name new_parent new_name) c held holds n h = absurd (none_in n h)
lead_of at (wants.Page folder names) c held holds n h = subst (λ k. LeadsTo at held.given k) (only_in folder n h) (lead_only at held.given folder holds.numbers holds.leads)
lead_of at (wants.Open number access) c held holds n h = absurd (none_in n h)
lead_of at (wants.Create parent name access) c held holds n h = absurd (none_in n h)
lead_of at (wants.Release number fh) c held holds n h = absurd (none_in n h)
lead_of at (wants.Link number parent name) c held holds n h = absurd (none_in n h)

-- ---- what a request may do at its end

module _ (s : State) (id : ℕ) (work : RecordedWork) (kept : IsKept s) (e : IsEnding s id work) where
  abbrev footprint : Footprint
  footprint = footprint_in work

  pub is_row : IsGrounded footprint
  is_row = are_grounded work.want work.case

  pub promised : work.promise ≡ promise_of footprint
  promised = e.provided.promise

  pub entries_standing : (footprint.births ≡ length footprint.entries) ⊎ ((key : Key) → Contains footprint.entries key → (n : ℕ) × IsNamed (at_in s.tree) n key.parent key.name)
  entries_standing = elim e.ready.names [
    | inl one ↦ inl one
    | inr all ↦ inr (λ key h. let it = All-contains (IsStanding (at_in s.tree) (flight_of e.flight)) footprint.entries key all h in (it.number, it.named))
  ]

  -- nothing was given yet, and three postings were promised for each name
  pub entries_few : s.limits.counts ≡ Free → s.limits.nodes + most_posted e.flight.stage e.flight.pins.numbers + length footprint.entries ≤ s.limits.postings
  entries_few f =
      let postings : work.promise.postings ≡ 3 * length footprint.entries = ap (λ (p : Promise). p.postings) promised in
      let none : most_posted e.flight.stage e.flight.pins.numbers ≡ 0 = ap (λ (st : Recording). most_posted st e.flight.pins.numbers) e.answered ∙ none_dropped e.flight.pins.numbers in
      omega (arith, e.few f, postings, none)

  abbrev pub may_enter : MayEnter s id footprint.entries
  may_enter = record {
    flight = e.flight;
    here = e.here;
    answered = ap is_working e.answered;
    pin_room = e.provided.pin_room;
    leads = λ key h. given_leads (at_in s.tree) footprint work.held e.ready.holds key.parent (entries_under work.want work.case key h);
    promise = work.promise;
    births = elim entries_standing [ inl one ↦ inl (ap (λ (p : Promise). p.nodes) promised ∙ one) | inr all ↦ inr all ];
    postings = ap (λ (p : Promise). p.postings) promised;
    room = e.room;
    few = entries_few;
  }

  pub are_unowned : footprint.page ≡ false → AreUnowned s footprint.entries
  are_unowned one key h = unowned (at_in s.tree) (flights_in (requests_of s.flights)) footprint work.held key e.ready.holds e.clear (entries_shared work.want work.case one key h)

  pub may_fill : footprint.page ≡ true → MayFill s id footprint.entries
  may_fill page =
      let nodes : work.promise.nodes ≡ length footprint.entries = ap (λ (p : Promise). p.nodes) promised ∙ page_births work.want work.case page in
      let postings : work.promise.postings ≡ 3 * length footprint.entries = ap (λ (p : Promise). p.postings) promised in
      record {
        flight = e.flight;
        here = e.here;
        answered = ap is_working e.answered;
        pin_room = e.provided.pin_room;
        leads = λ key h. given_leads (at_in s.tree) footprint work.held e.ready.holds key.parent (entries_under work.want work.case key h);
        room = record {
          nodes = omega (arith, nodes, e.room.nodes);
          births = omega (arith, nodes, e.room.births);
          postings = λ b. omega (arith, postings, e.room.postings b);
          at_once = λ f. omega (arith, postings, e.room.at_once f);
          nodes_within = omega (arith, nodes, e.room.nodes_within);
          postings_within = λ b. omega (arith, postings, e.room.postings_within b);
          entries = omega (arith, postings, e.room.entries);
          files = omega (arith, e.room.files);
          files_within = omega (arith, e.room.files_within);
          handles = omega (arith, e.room.handles);
        };
        few = entries_few;
      }

  pub folder_leads : (n : ℕ) → Contains (folders_of footprint) n → LeadsTo (at_in s.tree) work.held.given n
  folder_leads n h = lead_of (at_in s.tree) work.want work.case work.held e.ready.holds n h

  abbrev pub may_alter : MayAlter s footprint.done
  may_alter = record {
    footprint = footprint;
    grounded = is_row;
    placed = e.ready.below;
    own = is_row.own;
    held = work.held;
    holds = e.ready.holds;
    clear = e.clear;
    kept = λ n given. (are_kept s.flights s.files kept.flying kept.filed n).1 (inl (record { id = id; flight = flight_of e.flight; here = ap (λ o. option_map flight_of o) e.here; pin = e.ready.pinned n given }));
    not_misplaced = e.ready.placed;
  }
