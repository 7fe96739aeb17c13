-- What was collected is what the footprint reserves.
use Rattle.std.proofs.Common.{ℕ, ℤ, ◌*◌, ◌≤◌, ◌≡◌, ◌↔◌, ◌++◌, Bool, true, false, if◌then◌else◌, List, [], ◌∷◌, All, Contains, get_or, length, refl, sym, ap, ◌∙◌, subst, inl, inr, arith}
use Rattle.std.specs.Prelude.{Any, map}
use Rattle.std.specs.List.{AllZip}
use Rattle.std.proofs.lemmas.Bool.{and_parts, true≢false}
use Rattle.paths.specs.Prefixes.{Name, Names, is_prefix, is_name, path_bytes}
use Rattle.paths.proofs.PrefixLemmas.{is_prefix-append, is_prefix-trans, is_name-true, not_over_parent}
use Rattle.tree.specs.Places.{Lookup, IsTree, Leads}
use Rattle.table_footprints.specs.declared.refusal.FootprintRefusal.{FootprintRefusal}
use Rattle.table_footprints.specs.declared.refusal.FootprintRefusal.TheVariants as refusal
use Rattle.table_footprints.specs.declared.footprints.ChangeKind as told_change
use Rattle.table_footprints.specs.declared.footprints.ChangeKind.TheVariants.{Stays, Cuts, Exchanges, Moves}
use Rattle.table_footprints.specs.declared.gatherings.Gathering.{Gathering}
use Rattle.table_footprints.specs.declared.footprints.HoldMode.{HoldMode}
use Rattle.table_footprints.specs.declared.footprints.HoldMode.TheVariants.{Shared, Exclusive}
use Rattle.table_footprints.specs.Asked.{ArePaths, HasPath, Holds, IsAboveAt, IsExclusive, IsLong, IsMisplaced, IsPin, IsPrefixAt, IsRefusedExchange, IsRefusedMove, IsShared, IsSound, IsStale, IsThere, IsUnsound, long, misplaced, no_memory, stale, promise_of}
use Rattle.table_footprints.specs.Gatherings.{AreEnough, AreExchangeable, AreNames, AreRooted, CanMove, IsAgreed, IsBadFootprint, IsCaseOf, IsGathering, IsReserved, IsEntered, IsFit, IsLongPath, IsLost, IsOwnAt, IsPinAt, IsRootedAt, IsSharedAt, IsShortPath, IsTaken, HasNoNode, IsWrongChange, MayChange, exclusive_in, change_in, footprint_by, entered_case, entries_of, refusal_errno, key_in, locations_of}
use Rattle.table_footprints.specs.Laws.{base_of}
use Rattle.table_requests.specs.declared.data.Case.{Case}
use Rattle.table_footprints.specs.Footprints.{Location, AtName, AtNode, births_in, hidden_in}
use Rattle.table_requests.specs.declared.data.Promise.{Promise}
use Rattle.table_requests.specs.Roomy.{Listed, Pinned}
use Rattle.holds.specs.declared.held.Held.{Held}
use Rattle.table_footprints.specs.declared.gatherings.Reservation.{Reservation}
use Rattle.table_footprints.specs.declared.footprints.UniformFootprint.{UniformFootprint}
use Rattle.table_footprints.proofs.Finding.{location_once}
use Rattle.table_footprints.proofs.Members.{all_in, any_cases, any_first, any_in, any_later, any_none, in_any, in_map, map_in, zip_in}

-- ---- prefixes above a name

-- a prefix of a path other than the whole path is a prefix of the path above it
pub prefix_above : (p up : Names) (name : Name) → is_prefix p (up ++ name ∷ []) ≡ true → (p ≡ up ++ name ∷ [] → ⊥) → is_prefix p up ≡ true
prefix_above [] up name begins other = refl
prefix_above (x ∷ []) [] name begins other =
    let both = and_parts (is_name x name) true begins in
    absurd (other (ap (λ (y : Name). y ∷ []) (is_name-true x name both.0)))
prefix_above (x ∷ y ∷ p) [] name begins other =
    let both = and_parts (is_name x name) false begins in
    absurd (true≢false (sym both.1))
prefix_above (x ∷ p) (y ∷ up) name begins other =
    let both = and_parts (is_name x y) (is_prefix p (up ++ name ∷ [])) begins in
    let same : x ≡ y = is_name-true x y both.0 in
    let rest : is_prefix p up ≡ true = prefix_above p up name both.1 (λ e. other (ap (λ (z : Name). z ∷ p) same ∙ ap (λ (q : Names). y ∷ q) e)) in
    rw (both.0, rest) refl

module _ (at : Lookup) (tree : IsTree at) where
  pub above_forth : (p : Names) (parent : ℕ) (name : Name) → IsPrefixAt at p (AtNode parent) → IsAboveAt at p (AtName parent name)
  above_forth p parent name it = record {
    path = it.path ++ name ∷ [];
    leads = record { above = it.path; leads = it.leads; whole = refl };
    begins = record { some = it.begins.some; begins = is_prefix-trans p it.path (it.path ++ name ∷ []) it.begins.begins (is_prefix-append it.path (name ∷ [])) };
    other = λ e. true≢false (sym it.begins.begins ∙ (ap (λ (r : Names). is_prefix r it.path) e ∙ not_over_parent it.path name));
  }

  pub above_back : (p : Names) (parent : ℕ) (name : Name) → IsAboveAt at p (AtName parent name) → IsPrefixAt at p (AtNode parent)
  above_back p parent name it = record {
    path = it.leads.above;
    leads = it.leads.leads;
    begins = record {
      some = it.begins.some;
      begins = prefix_above p it.leads.above name (subst (λ r. is_prefix p r ≡ true) it.leads.whole it.begins.begins) (λ e. it.other (e ∙ sym it.leads.whole));
    };
  }

  pub aboves_forth : (p : Names) (ls : List Location) → AreNames ls → Any (IsSharedAt at Exclusive p) ls → Any (IsAboveAt at p) ls
  aboves_forth p [] names h = absurd (any_none (IsSharedAt at Exclusive p) h)
  aboves_forth p (AtNode n ∷ ls) names h = absurd names
  aboves_forth p (AtName parent name ∷ ls) names h = elim (any_cases (IsSharedAt at Exclusive p) (AtName parent name) ls h) [
    | inl here ↦ any_first (IsAboveAt at p) (AtName parent name) ls (above_forth p parent name here)
    | inr more ↦ any_later (IsAboveAt at p) (AtName parent name) ls (aboves_forth p ls names more)
  ]

  pub aboves_back : (p : Names) (ls : List Location) → AreNames ls → Any (IsAboveAt at p) ls → Any (IsSharedAt at Exclusive p) ls
  aboves_back p [] names h = absurd (any_none (IsAboveAt at p) h)
  aboves_back p (AtNode n ∷ ls) names h = absurd names
  aboves_back p (AtName parent name ∷ ls) names h = elim (any_cases (IsAboveAt at p) (AtName parent name) ls h) [
    | inl here ↦ any_first (IsSharedAt at Exclusive p) (AtName parent name) ls (above_back p parent name here)
    | inr more ↦ any_later (IsSharedAt at Exclusive p) (AtName parent name) ls (aboves_back p ls names more)
  ]

  -- ---- tests

  module _ (ls : List Location) (hold : HoldMode) (enters : Bool) (change : told_change.ChangeKind) (c : Case) where
    not_stale : AreRooted at ls → IsStale at (footprint_by ls hold enters change c) → ⊥
    not_stale rooted s =
        let it = in_map (λ l. base_of l) ls s.number s.named in
        s.lost (subst (λ n. Leads at n) it.2 (all_in (IsRootedAt at) ls it.0 rooted it.1))

    not_long : (paths : List Names) → AllZip (IsShortPath at) ls paths → IsLong at (footprint_by ls hold enters change c) → ⊥
    not_long paths zip s =
        let it = zip_in (IsShortPath at) ls paths s.location zip s.asked in
        let short : path_bytes s.path ≤ 4096 = subst (λ (p : Names). path_bytes p ≤ 4096) (location_once at tree s.location it.0 s.path it.2.0 s.leads) it.2.1 in
        let over = s.long in
        absurd (omega arith)

  pub not_misplaced : (change : told_change.ChangeKind) (ls : List Location) (paths : List Names) → AllZip (IsShortPath at) ls paths → MayChange change paths → (e : ℤ) → IsMisplaced at (change_in change ls) e → ⊥
  not_misplaced Stays ls paths zip may e bad = bad
  not_misplaced Cuts [] paths zip may e bad = bad
  not_misplaced Cuts (l ∷ ls) paths zip may e bad = bad
  not_misplaced Moves [] paths zip may e bad = bad
  not_misplaced Moves (l ∷ []) paths zip may e bad = bad
  not_misplaced Moves (l ∷ m ∷ ls) [] zip may e bad = zip
  not_misplaced Moves (l ∷ m ∷ ls) (p ∷ []) zip may e bad = zip.1
  not_misplaced Moves (l ∷ m ∷ ls) (p ∷ q ∷ paths) zip may e bad =
      let source = location_once at tree l bad.path p bad.leads zip.0.0 in
      let target = location_once at tree m bad.new_path q bad.new_leads zip.1.0.0 in
      may e (subst (λ (r : Names). IsRefusedMove r q e) source (subst (λ (r : Names). IsRefusedMove bad.path r e) target bad.refused))
  not_misplaced Exchanges [] paths zip may e bad = bad
  not_misplaced Exchanges (l ∷ []) paths zip may e bad = bad
  not_misplaced Exchanges (l ∷ m ∷ ls) [] zip may e bad = zip
  not_misplaced Exchanges (l ∷ m ∷ ls) (p ∷ []) zip may e bad = zip.1
  not_misplaced Exchanges (l ∷ m ∷ ls) (p ∷ q ∷ paths) zip may e bad =
      let source = location_once at tree l bad.path p bad.leads zip.0.0 in
      let target = location_once at tree m bad.new_path q bad.new_leads zip.1.0.0 in
      may e (subst (λ (r : Names). IsRefusedExchange r q e) source (subst (λ (r : Names). IsRefusedExchange bad.path r e) target bad.refused))

  pub sound : (ls : List Location) (hold : HoldMode) (enters : Bool) (change : told_change.ChangeKind) (c : Case) (paths : List Names) → AreRooted at ls → AllZip (IsShortPath at) ls paths → MayChange change paths → IsSound at (footprint_by ls hold enters change c)
  sound ls hold enters change c paths rooted zip may = record {
    not_stale = not_stale ls hold enters change c rooted;
    not_long = not_long ls hold enters change c paths zip;
    not_misplaced = not_misplaced change ls paths zip may;
  }

  -- ---- refusals

  pub lost_refused : (ls : List Location) (hold : HoldMode) (enters : Bool) (change : told_change.ChangeKind) (c : Case) → Any (IsLost at) ls → IsUnsound at (footprint_by ls hold enters change c) (refusal_errno refusal.Stale)
  lost_refused ls hold enters change c lost =
      let it = in_any (IsLost at) ls lost in
      stale refl (record { number = base_of it.0; named = map_in (λ l. base_of l) ls it.0 it.1; lost = it.2 })

  pub bad_refused : (ls : List Location) (hold : HoldMode) (enters : Bool) (change : told_change.ChangeKind) (c : Case) → AreRooted at ls → (r : FootprintRefusal) → IsBadFootprint at ls r → IsUnsound at (footprint_by ls hold enters change c) (refusal_errno r)
  bad_refused ls hold enters change c rooted refusal.Stale bad = absurd bad
  bad_refused ls hold enters change c rooted refusal.TooLong bad =
      let it = in_any (IsLongPath at) ls bad in
      long refl (not_stale ls hold enters change c rooted) (record { location = it.0; asked = it.1; path = it.2.0; leads = it.2.1; long = it.2.2 })
  bad_refused ls hold enters change c rooted refusal.IntoItself bad = absurd bad
  bad_refused ls hold enters change c rooted refusal.OntoFolder bad = absurd bad
  bad_refused ls hold enters change c rooted refusal.Memory bad = no_memory refl (not_stale ls hold enters change c rooted)

  pub changed_wrong : (change : told_change.ChangeKind) (ls : List Location) (paths : List Names) → AllZip (IsShortPath at) ls paths → (e : ℤ) → IsWrongChange change paths e → IsMisplaced at (change_in change ls) e
  changed_wrong Stays ls paths zip e wrong = absurd wrong
  changed_wrong Cuts ls paths zip e wrong = absurd wrong
  changed_wrong Moves ls [] zip e wrong = absurd wrong
  changed_wrong Moves ls (p ∷ []) zip e wrong = absurd wrong
  changed_wrong Moves [] (p ∷ q ∷ paths) zip e wrong = absurd zip
  changed_wrong Moves (l ∷ []) (p ∷ q ∷ paths) zip e wrong = absurd zip.1
  changed_wrong Moves (l ∷ m ∷ ls) (p ∷ q ∷ paths) zip e wrong = record { path = p; leads = zip.0.0; new_path = q; new_leads = zip.1.0.0; refused = wrong }
  changed_wrong Exchanges ls [] zip e wrong = absurd wrong
  changed_wrong Exchanges ls (p ∷ []) zip e wrong = absurd wrong
  changed_wrong Exchanges [] (p ∷ q ∷ paths) zip e wrong = absurd zip
  changed_wrong Exchanges (l ∷ []) (p ∷ q ∷ paths) zip e wrong = absurd zip.1
  changed_wrong Exchanges (l ∷ m ∷ ls) (p ∷ q ∷ paths) zip e wrong = record { path = p; leads = zip.0.0; new_path = q; new_leads = zip.1.0.0; refused = wrong }

  pub change_refused : (ls : List Location) (hold : HoldMode) (enters : Bool) (change : told_change.ChangeKind) (c : Case) (paths : List Names) → AreRooted at ls → AllZip (IsShortPath at) ls paths → (e : ℤ) → IsWrongChange change paths e → IsUnsound at (footprint_by ls hold enters change c) e
  change_refused ls hold enters change c paths rooted zip e wrong =
      misplaced (not_stale ls hold enters change c rooted) (not_long ls hold enters change c paths zip) (changed_wrong change ls paths zip e wrong)

  -- ---- holds, pins and paths

  module _ (ls : List Location) (x : Gathering) where
    shared_for : (hold : HoldMode) → AreNames (exclusive_in hold ls) → (enters : Bool) (change : told_change.ChangeKind) (c : Case) → IsGathering at hold ls x → (p : Names) → Contains x.shared p ↔ IsShared at (footprint_by ls hold enters change c) p
    shared_for Shared names enters change c is p = (
      λ h. inl ((is.shared p).0 h),
      λ h. elim h [ inl any ↦ (is.shared p).1 any | inr none ↦ absurd (any_none (IsAboveAt at p) none) ],
    )
    shared_for Exclusive names enters change c is p = (
      λ h. inr (aboves_forth p ls names ((is.shared p).0 h)),
      λ h. elim h [ inl none ↦ absurd (any_none (IsPrefixAt at p) none) | inr any ↦ (is.shared p).1 (aboves_back p ls names any) ],
    )

    own_for : (hold : HoldMode) → (enters : Bool) (change : told_change.ChangeKind) (c : Case) → IsGathering at hold ls x → (p : Names) → Contains x.exclusive p ↔ IsExclusive at (footprint_by ls hold enters change c) p
    own_for Shared enters change c is p = (
      λ h. absurd (in_any (IsOwnAt at Shared p) ls ((is.exclusive p).0 h)).2,
      λ h. absurd (any_none (λ l. HasPath at l p) h),
    )
    own_for Exclusive enters change c is p = is.exclusive p

    pub holds_for : (hold : HoldMode) → AreNames (exclusive_in hold ls) → (enters : Bool) (change : told_change.ChangeKind) (c : Case) → IsGathering at hold ls x → Holds at (footprint_by ls hold enters change c) (record { given = x.given; shared = x.shared; exclusive = x.exclusive })
    holds_for hold names enters change c is = record {
      numbers = is.numbers;
      leads = is.leads;
      shared = shared_for hold names enters change c is;
      exclusive = own_for hold enters change c is;
    }

    pub pins_for : (hold : HoldMode) (enters : Bool) (change : told_change.ChangeKind) (c : Case) → IsGathering at hold ls x → (n : ℕ) → Contains x.pins.numbers n ↔ IsPin at (footprint_by ls hold enters change c) n
    pins_for hold enters change c is n = (
      λ h.
          let it = in_any (IsPinAt at n) ls ((is.pins n).0 h) in
          elim it.2 [
            | inl e ↦ inl (subst (λ m. Contains (map (λ l. base_of l) ls) m) e (map_in (λ l. base_of l) ls it.0 it.1))
            | inr there ↦ inr (any_in (λ l. IsThere at l n) ls it.0 it.1 there)
          ],
      λ h. (is.pins n).1 (elim h [
        | inl named ↦ let it = in_map (λ l. base_of l) ls n named in any_in (IsPinAt at n) ls it.0 it.1 (inl it.2)
        | inr there ↦ let it = in_any (λ l. IsThere at l n) ls there in any_in (IsPinAt at n) ls it.0 it.1 (inr it.2)
      ]),
    )

  pub paths_for : (ls : List Location) (paths : List Names) → AllZip (IsShortPath at) ls paths → ArePaths at ls paths
  paths_for [] [] zip = refl
  paths_for [] (p ∷ paths) zip = absurd zip
  paths_for (l ∷ ls) [] zip = absurd zip
  paths_for (l ∷ ls) (p ∷ paths) zip = (p, paths, refl, zip.0.0, paths_for ls paths zip.1)

  -- ---- promises

  pub case_for : (enters none : Bool) (ls : List Location) → (none ≡ true → Any (HasNoNode at) ls) → (none ≡ false → All (IsTaken at) ls) → IsCaseOf at enters ls (entered_case none enters)
  case_for true true ls next_free taken = next_free refl
  case_for true false ls next_free taken = taken refl
  case_for false true ls next_free taken = refl
  case_for false false ls next_free taken = refl

pub one_entry : (enters : Bool) (ls : List Location) → IsEntered enters ls → length (if enters then key_in ls else []) ≡ (if enters then 1 else 0)
one_entry false ls entered = refl
one_entry true [] entered = absurd entered
one_entry true (AtNode n ∷ ls) entered = one_entry true ls entered
one_entry true (AtName parent name ∷ ls) entered = refl

pub promise_for : (enters none : Bool) (ls : List Location) (hold : HoldMode) (change : told_change.ChangeKind) → IsEntered enters ls
    → (let p : Promise = record { nodes = births_in (entered_case none enters); postings = 3 * (if enters then 1 else 0); files = 0 } in p ≡ promise_of (footprint_by ls hold enters change (entered_case none enters)))
promise_for false true ls hold change entered = refl
promise_for false false ls hold change entered = refl
promise_for true true [] hold change entered = absurd entered
promise_for true true (AtNode n ∷ ls) hold change entered = promise_for true true ls hold change entered
promise_for true true (AtName parent name ∷ ls) hold change entered = refl
promise_for true false [] hold change entered = absurd entered
promise_for true false (AtNode n ∷ ls) hold change entered = promise_for true false ls hold change entered
promise_for true false (AtName parent name ∷ ls) hold change entered = refl

-- a file is not hidden for an entry
pub none_hidden : (none enters : Bool) → [] ≡ hidden_in (entered_case none enters)
none_hidden true true = refl
none_hidden true false = refl
none_hidden false enters = refl

-- the first two of several paths
pub may_move : (paths : List Names) (p q : Names) → 2 ≤ length paths → p ≡ get_or paths 0 p → q ≡ get_or paths 1 q → CanMove p q → MayChange Moves paths
may_move [] p q two a b can = tt
may_move (x ∷ []) p q two a b can = tt
may_move (x ∷ y ∷ paths) p q two a b can = subst (λ (r : Names). CanMove x r) b (subst (λ (r : Names). CanMove r q) a can)

pub may_exchange : (paths : List Names) (p q : Names) → 2 ≤ length paths → p ≡ get_or paths 0 p → q ≡ get_or paths 1 q → AreExchangeable p q → MayChange Exchanges paths
may_exchange [] p q two a b can = tt
may_exchange (x ∷ []) p q two a b can = tt
may_exchange (x ∷ y ∷ paths) p q two a b can = subst (λ (r : Names). AreExchangeable x r) b (subst (λ (r : Names). AreExchangeable r q) a can)

pub enough_more : (change : told_change.ChangeKind) (m n : ℕ) → m ≤ n → AreEnough change m → AreEnough change n
enough_more Stays m n more h = tt
enough_more Cuts m n more h = tt
enough_more Moves m n more h = omega (arith, more, h)
enough_more Exchanges m n more h = omega (arith, more, h)

pub enough_paths : (change : told_change.ChangeKind) (m n : ℕ) → m ≡ n → AreEnough change m → AreEnough change n
enough_paths change m n e h = subst (λ k. AreEnough change k) e h

pub agreed : (at : Lookup) → IsTree at → (footprint : UniformFootprint) (x : Gathering) (births entries : ℕ) (t : Reservation) → IsFit footprint → AreRooted at (locations_of footprint) → IsGathering at footprint.hold (locations_of footprint) x → MayChange footprint.change x.paths
    → entries ≡ entries_of footprint → births ≡ births_in (entered_case x.absent footprint.enters) → entries_of footprint ≤ x.pins.room → IsReserved x (entered_case x.absent footprint.enters) [] births entries t → IsAgreed at footprint t
agreed at tree footprint x births entries t fit rooted is may e b room drawn =
    let ls = locations_of footprint in
    let c = t.case in
    let case = entered_case x.absent footprint.enters in
    let few : length (if footprint.enters then key_in ls else []) ≡ entries_of footprint = one_entry footprint.enters ls fit.entry in
    let promised : t.promise ≡ record { nodes = births_in case; postings = 3 * entries_of footprint; files = 0 }
    = subst (λ (n : ℕ). t.promise ≡ record { nodes = births_in case; postings = 3 * n; files = 0 }) e (subst (λ (m : ℕ). t.promise ≡ record { nodes = m; postings = 3 * entries; files = 0 }) b drawn.promise) in
    record {
      fits = subst (λ k. IsCaseOf at footprint.enters ls k) (sym drawn.case_is) (case_for at tree footprint.enters x.absent ls is.next_free is.taken);
      reservation = record {
        sound = sound at tree ls footprint.hold footprint.enters footprint.change c x.paths rooted is.paths may;
        holds = subst (λ (held : Held). Holds at (footprint_by ls footprint.hold footprint.enters footprint.change c) held) (sym drawn.held) (holds_for at tree ls x footprint.hold fit.names footprint.enters footprint.change c is);
        pins = subst (λ (p : Pinned). (n : ℕ) → Contains p.numbers n ↔ IsPin at (footprint_by ls footprint.hold footprint.enters footprint.change c) n) (sym drawn.pins) (pins_for at tree ls x footprint.hold footprint.enters footprint.change c is);
        paths = subst (λ (ps : List Names). ArePaths at ls ps) (sym drawn.paths) (paths_for at tree ls x.paths is.paths);
        promise = subst (λ k. t.promise ≡ promise_of (footprint_by ls footprint.hold footprint.enters footprint.change k)) (sym drawn.case_is) (promised ∙ promise_for footprint.enters x.absent ls footprint.hold footprint.change fit.entry);
        pin_room = subst (λ (p : Pinned). length (if footprint.enters then key_in ls else []) ≤ p.room) (sym drawn.pins) (subst (λ n. n ≤ x.pins.room) (sym few) room);
        answer_room = subst (λ (g : Listed). length (if footprint.enters then key_in ls else []) ≤ g.room) (sym drawn.answer) (omega (arith, few, e));
        unanswered = ap (λ (g : Listed). g.items) drawn.answer;
        candidates = drawn.candidates_are ∙ (none_hidden x.absent footprint.enters ∙ ap (λ (k : Case). hidden_in k) (sym drawn.case_is));
      };
    }
