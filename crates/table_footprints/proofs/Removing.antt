-- What was found at a name that is removed or replaced, and at the other names in its folder, is what the footprint of
-- its want reserves.
use Rattle.std.proofs.Common.{ℕ, ℤ, ◌+◌, ◌≤◌, ◌<◌, ◌≡◌, ◌↔◌, ◌++◌, ◌⊎◌, Bool, true, List, [], ◌∷◌, Contains, length, get_or, take, refl, sym, ap, ◌∙◌, subst, inl, inr, arith}
use Rattle.std.specs.Prelude.{Any, map}
use Rattle.std.specs.List.{AllZip}
use Rattle.std.proofs.lemmas.Bool.{cases_Bool, false≢true}
use Rattle.std.proofs.lemmas.List.{append-nil, append_assoc, get_or_append_left, length-append, map-append, take_more}
use Rattle.std.proofs.lemmas.List.Elements.{Contains-append_cases, Contains-append_left, Contains-append_right, Contains-push}
use Rattle.table_files.specs.Handles.{AreOpenEntries, IsOpen, Opened}
use Rattle.table_requests.specs.declared.data.Case.{Case}
use Rattle.table_requests.specs.declared.data.Case.TheVariants as cases
use Rattle.table_requests.specs.Roomy.{Listed, Pinned}
use Rattle.holds.specs.declared.held.GivenPath.{GivenPath}
use Rattle.holds.specs.declared.held.Held.{Held}
use Rattle.paths.specs.Prefixes.{Name, Names, path_bytes}
use Rattle.tree.specs.Places.{Lookup, IsCensus, IsNamed, IsTree, Leads}
use Rattle.table_footprints.specs.declared.gatherings.Gathering.{Gathering}
use Rattle.table_footprints.specs.declared.gatherings.Reservation.{Reservation}
use Rattle.table_footprints.specs.declared.in_folder.FoundName.{FoundName}
use Rattle.table_footprints.specs.declared.refusal.FootprintRefusal.{FootprintRefusal}
use Rattle.table_footprints.specs.declared.refusal.FootprintRefusal.TheVariants as refusal
use Rattle.table_footprints.specs.declared.footprints.ChangeKind as told_change
use Rattle.table_footprints.specs.declared.footprints.HoldMode.TheVariants.{Exclusive}
use Rattle.table_footprints.specs.Asked.{ArePaths, HasPath, Holds, IsAboveAt, IsLong, IsPin, IsPrefixAt, IsStale, IsThere, IsUnsound, long, misplaced, no_memory, stale}
use Rattle.table_footprints.specs.Cases.{IsHidingCase}
use Rattle.table_footprints.specs.Gatherings.{AreEnough, AreNames, AreRooted, IsBadFootprint, IsGathering, IsReserved, IsLongPath, IsLost, IsPinAt, IsRootedAt, IsSharedAt, IsShortPath, IsReservation, IsWrongChange, MayChange, refusal_errno}
use Rattle.table_footprints.specs.InFolder.{IsNameFound}
use Rattle.table_footprints.specs.Laws.{base_of}
use Rattle.table_footprints.specs.Removals.{AddsBeside, IsGathered, going_in}
use Rattle.table_footprints.specs.Footprints.{Footprint, Location, AtName, AtNode, hidden_in, names_under}
use Rattle.table_footprints.proofs.Agreeing.{above_back, aboves_back, aboves_forth, changed_wrong, enough_more, not_misplaced, paths_for}
use Rattle.table_footprints.proofs.Finding.{location_once}
use Rattle.table_footprints.proofs.Members.{all_in, any_in, any_none, any_push, contains_push, in_any, in_map, map_in, zip_in, zip_length, zip_push}
use Rattle.table_footprints.proofs.Wanting.{named_or_free}

-- ---- its case

pub plain_case : (at : Lookup) → IsTree at → (all : Opened) → AreOpenEntries all → (counter parent : ℕ) (name : Name) (may_hide : Bool) (n : ℕ) → IsNamed at n parent name
    → ((may_hide ≡ true) × (all.opened n ≡ true) → ⊥) → IsHidingCase (record { at = at; files = all.at; counter = counter }) parent name may_hide cases.Plain
plain_case at tree all filed counter parent name may_hide n named shut may m other is_open =
    shut (may, (filed.opens n).1 (subst (λ k. IsOpen all.at k) (sym (tree.apart n m parent name named other)) is_open))

-- the name has a node
pub case_of : (at : Lookup) → IsTree at → (all : Opened) → AreOpenEntries all → (counter parent : ℕ) (name : Name) (may_hide : Bool) (n : ℕ) → IsNamed at n parent name
    → ((may_hide ≡ true) × (all.opened n ≡ true)) ⊎ ((may_hide ≡ true) × (all.opened n ≡ true) → ⊥) → (c : Case) × IsHidingCase (record { at = at; files = all.at; counter = counter }) parent name may_hide c
case_of at tree all filed counter parent name may_hide n named (inl both) = (cases.Hiding n counter, (both.0, refl, named, (filed.opens n).0 both.1))
case_of at tree all filed counter parent name may_hide n named (inr shut) = (cases.Plain, plain_case at tree all filed counter parent name may_hide n named shut)

whether : (a b : Bool) → ((a ≡ true) × (b ≡ true)) ⊎ ((a ≡ true) × (b ≡ true) → ⊥)
whether a b = elim (cases_Bool a) [
  | inl yes' ↦ elim (cases_Bool b) [ inl also ↦ inl (yes', also) | inr no' ↦ inr (λ both. false≢true (sym no' ∙ both.1)) ]
  | inr no' ↦ inr (λ both. false≢true (sym no' ∙ both.0))
]

-- a name that is removed or replaced has a case
pub hiding_there : (at : Lookup) (living counts : ℕ) → IsTree at → IsCensus at living counts → (all : Opened) → AreOpenEntries all → (counter parent : ℕ) (name : Name) (may_hide : Bool)
    → (c : Case) × IsHidingCase (record { at = at; files = all.at; counter = counter }) parent name may_hide c
hiding_there at living counts tree census all filed counter parent name may_hide = elim (named_or_free at living counts tree census parent name) [
  | inl it ↦ case_of at tree all filed counter parent name may_hide it.0 it.1 (whether may_hide (all.opened it.0))
  | inr free ↦ (cases.Plain, λ may m other is_open. free m other)
]

-- ---- names one after another

module _ (ls : List Location) (folder : ℕ) where
  pub beside_none : ls ++ names_under folder [] ≡ ls
  beside_none = append-nil ls

  pub beside_more : (names : List Name) (i : ℕ) (name : Name) → i < length names → name ≡ get_or names i name → ls ++ names_under folder (take (i + 1) names) ≡ (ls ++ names_under folder (take i names)) ++ AtName folder name ∷ []
  beside_more names i name within read =
      let under : names_under folder (take (i + 1) names) ≡ names_under folder (take i names) ++ AtName folder name ∷ []
      = ap (names_under folder) (take_more names i name within ∙ ap (λ (x : Name). take i names ++ x ∷ []) (sym read)) ∙ map-append (λ x. AtName folder x) (take i names) (name ∷ []) in
      ap (λ (ms : List Location). ls ++ ms) under ∙ sym (append_assoc ls (names_under folder (take i names)) (AtName folder name ∷ []))

  pub beside_in : (names : List Name) (name : Name) → Contains names name → Contains (ls ++ names_under folder names) (AtName folder name)
  beside_in names name h = Contains-append_right ls (names_under folder names) (AtName folder name) (map_in (λ x. AtName folder x) names name h)

  -- the parent of the names leads to the root
  pub folder_leads : (at : Lookup) → AreRooted at ls → Contains (map (λ l. base_of l) ls) folder → Leads at folder
  folder_leads at rooted h =
      let it = in_map (λ l. base_of l) ls folder h in
      subst (λ n. Leads at n) it.2 (all_in (IsRootedAt at) ls it.0 rooted it.1)

-- some location among more
any_more : (P : Location → Type 0) (ls more : List Location) → Any P ls → Any P (ls ++ more)
any_more P ls more h = let it = in_any P ls h in any_in P (ls ++ more) it.0 (Contains-append_left ls more it.0 it.1) it.2

-- the first of several locations lead to the root
pub rooted_less : (at : Lookup) (ls more : List Location) → AreRooted at (ls ++ more) → AreRooted at ls
rooted_less at ls more rooted k l within = subst (IsRootedAt at) (get_or_append_left ls more l k within) (rooted k l (omega (arith, within, length-append ls more)))

-- the node of the last location
pub under_last : (ls : List Location) (parent : ℕ) (name : Name) → Contains (map (λ l. base_of l) (ls ++ AtName parent name ∷ [])) parent
under_last ls parent name = map_in (λ l. base_of l) (ls ++ AtName parent name ∷ []) (AtName parent name) (Contains-push ls (AtName parent name))

pub bad_more : (at : Lookup) (ls more : List Location) (r : FootprintRefusal) → IsBadFootprint at ls r → IsBadFootprint at (ls ++ more) r
bad_more at ls more refusal.Stale bad = absurd bad
bad_more at ls more refusal.TooLong bad = any_more (IsLongPath at) ls more bad
bad_more at ls more refusal.IntoItself bad = absurd bad
bad_more at ls more refusal.OntoFolder bad = absurd bad
bad_more at ls more refusal.Memory bad = tt

-- ---- what was found

-- what is at the locations of the footprint, which are all held exclusively
pub gathered_start : (at : Lookup) (ls : List Location) (x : Gathering) → IsGathering at Exclusive ls x → IsGathered at ls ls x
gathered_start at ls x is = record {
  numbers = is.numbers;
  leads = is.leads;
  shared = is.shared;
  exclusive = is.exclusive;
  paths = is.paths;
  pins = λ n. (
    λ h.
        let it = in_any (IsPinAt at n) ls ((is.pins n).0 h) in
        elim it.2 [
          | inl e ↦ inl (subst (λ m. Contains (map (λ l. base_of l) ls) m) e (map_in (λ l. base_of l) ls it.0 it.1))
          | inr there ↦ inr (any_in (λ l. IsThere at l n) ls it.0 it.1 there)
        ],
    λ h. (is.pins n).1 (elim h [
      | inl named ↦ let it = in_map (λ l. base_of l) ls n named in any_in (IsPinAt at n) ls it.0 it.1 (inl it.2)
      | inr there ↦ let it = in_any (λ l. IsThere at l n) ls there in any_in (IsPinAt at n) ls it.0 it.1 (inr it.2)
    ]),
  );
}

-- one more name in the folder
pub gathered_more : (at : Lookup) → IsTree at → (ls all : List Location) (l : Location) (f : FoundName) (old new : Gathering) → IsGathered at ls all old → IsNameFound at l f → AddsBeside old f new → IsGathered at ls (all ++ l ∷ []) new
gathered_more at tree ls all l f old new is found adds = record {
  numbers = ap (λ (leads : List GivenPath). map (λ (lead : GivenPath). lead.number) leads) adds.given ∙ is.numbers;
  leads = rw adds.given is.leads;
  shared = rw adds.shared is.shared;
  exclusive = λ p.
      let push = any_push (λ m. HasPath at m p) all l in
      let own = contains_push old.exclusive f.path p in (
        λ h. push.1 (elim (own.0 (subst (λ (ps : List Names). Contains ps p) adds.exclusive h)) [
          | inl before ↦ inl ((is.exclusive p).0 before)
          | inr e ↦ inr (subst (λ (q : Names). HasPath at l q) e found.path)
        ]),
        λ h. subst (λ (ps : List Names). Contains ps p) (sym adds.exclusive) (own.1 (elim (push.0 h) [
          | inl before ↦ inl ((is.exclusive p).1 before)
          | inr here ↦ inr (location_once at tree l f.path p found.path here)
        ])),
      );
  paths = rw adds.paths (zip_push (IsShortPath at) all old.paths l f.path is.paths (found.path, found.short));
  pins = λ n.
      let push = any_push (λ m. IsThere at m n) all l in (
        λ h. elim ((adds.pins n).0 h) [
          | inl before ↦ elim ((is.pins n).0 before) [ inl named ↦ inl named | inr there ↦ inr (push.1 (inl there)) ]
          | inr e ↦ inr (push.1 (inr ((found.node n).0 e)))
        ],
        λ h. (adds.pins n).1 (elim h [
          | inl named ↦ inl ((is.pins n).1 (inl named))
          | inr there ↦ elim (push.0 there) [ inl before ↦ inl ((is.pins n).1 (inr before)) | inr here ↦ inr ((found.node n).1 here) ]
        ]),
      );
}

module _ (at : Lookup) (tree : IsTree at) (ls : List Location) (change : told_change.ChangeKind) (folder : ℕ) (hidden : List Name) where
  abbrev all : List Location
  all = ls ++ names_under folder hidden

  abbrev d : Footprint
  d = going_in ls change folder hidden

  -- ---- tests

  going_rooted : AreRooted at ls → IsStale at d → ⊥
  going_rooted rooted s =
      let it = in_map (λ l. base_of l) ls s.number s.named in
      s.lost (subst (λ n. Leads at n) it.2 (all_in (IsRootedAt at) ls it.0 rooted it.1))

  going_short : (paths : List Names) → AllZip (IsShortPath at) all paths → IsLong at d → ⊥
  going_short paths zip s =
      let it = zip_in (IsShortPath at) all paths s.location zip s.asked in
      let short : path_bytes s.path ≤ 4096 = subst (λ (p : Names). path_bytes p ≤ 4096) (location_once at tree s.location it.0 s.path it.2.0 s.leads) it.2.1 in
      let over = s.long in
      absurd (omega arith)

  pub going_lost : Any (IsLost at) ls → IsUnsound at d (refusal_errno refusal.Stale)
  going_lost lost =
      let it = in_any (IsLost at) ls lost in
      stale refl (record { number = base_of it.0; named = map_in (λ l. base_of l) ls it.0 it.1; lost = it.2 })

  pub going_bad : AreRooted at ls → (r : FootprintRefusal) → IsBadFootprint at all r → IsUnsound at d (refusal_errno r)
  going_bad rooted refusal.Stale bad = absurd bad
  going_bad rooted refusal.TooLong bad =
      let it = in_any (IsLongPath at) all bad in
      long refl (going_rooted rooted) (record { location = it.0; asked = it.1; path = it.2.0; leads = it.2.1; long = it.2.2 })
  going_bad rooted refusal.IntoItself bad = absurd bad
  going_bad rooted refusal.OntoFolder bad = absurd bad
  going_bad rooted refusal.Memory bad = no_memory refl (going_rooted rooted)

  pub going_wrong : (paths : List Names) → AreRooted at ls → AllZip (IsShortPath at) all paths → (e : ℤ) → IsWrongChange change paths e → IsUnsound at d e
  going_wrong paths rooted zip e wrong = misplaced (going_rooted rooted) (going_short paths zip) (changed_wrong at tree change all paths zip e wrong)

  -- ---- what it reserves

  -- each name in the folder is under a node of theirs
  above_any : Contains (map (λ l. base_of l) ls) folder → AreNames ls → (p : Names) → Any (IsAboveAt at p) all → Any (IsSharedAt at Exclusive p) ls
  above_any under names p any =
      let it = in_any (IsAboveAt at p) all any in
      elim (Contains-append_cases ls (names_under folder hidden) it.0 it.1) [
        | inl first ↦ aboves_back at tree p ls names (any_in (IsAboveAt at p) ls it.0 first it.2)
        | inr beside ↦
            let x = in_map (λ n. AtName folder n) hidden it.0 beside in
            let l = in_map (λ m. base_of m) ls folder under in
            let above = above_back at tree p folder x.0 (subst (λ m. IsAboveAt at p m) (sym x.2) it.2) in
            any_in (IsSharedAt at Exclusive p) ls l.0 l.1 (subst (λ n. IsPrefixAt at p (AtNode n)) (sym l.2) above)
      ]

  going_holds : Contains (map (λ l. base_of l) ls) folder → AreNames ls → (x : Gathering) → IsGathered at ls all x → Holds at d (record { given = x.given; shared = x.shared; exclusive = x.exclusive })
  going_holds under names x is = record {
    numbers = is.numbers;
    leads = is.leads;
    shared = λ p. (
      λ h. inr (any_more (IsAboveAt at p) ls (names_under folder hidden) (aboves_forth at tree p ls names ((is.shared p).0 h))),
      λ h. elim h [ inl none ↦ absurd (any_none (IsPrefixAt at p) none) | inr any ↦ (is.shared p).1 (above_any under names p any) ],
    );
    exclusive = is.exclusive;
  }

  pub going_agreed : (x : Gathering) (case : Case) (t : Reservation) → AreRooted at ls → Contains (map (λ l. base_of l) ls) folder → AreNames ls → IsGathered at ls all x → MayChange change x.paths → IsReserved x case hidden 0 0 t → hidden ≡ hidden_in case → IsReservation at d t
  going_agreed x case t rooted under names is may drawn hides = record {
    sound = record { not_stale = going_rooted rooted; not_long = going_short x.paths is.paths; not_misplaced = not_misplaced at tree change all x.paths is.paths may };
    holds = subst (λ (held : Held). Holds at d held) (sym drawn.held) (going_holds under names x is);
    pins = subst (λ (p : Pinned). (n : ℕ) → Contains p.numbers n ↔ IsPin at d n) (sym drawn.pins) is.pins;
    paths = subst (λ (ps : List Names). ArePaths at all ps) (sym drawn.paths) (paths_for at tree all x.paths is.paths);
    promise = drawn.promise;
    pin_room = omega arith;
    answer_room = omega arith;
    unanswered = ap (λ (g : Listed). g.items) drawn.answer;
    candidates = drawn.candidates_are ∙ (hides ∙ ap (λ (k : Case). hidden_in k) (sym drawn.case_is));
  }

  -- there are enough paths for the change
  pub going_enough : (paths : List Names) (n : ℕ) → n ≡ length ls → AllZip (IsShortPath at) all paths → AreEnough change n → AreEnough change (length paths)
  going_enough paths n same zip h =
      enough_more change n (length paths) (omega (arith, same, length-append ls (names_under folder hidden), zip_length (IsShortPath at) all paths zip)) h
