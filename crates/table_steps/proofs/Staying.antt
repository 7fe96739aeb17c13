-- What a request relies on does not change if the paths do not whose prefixes it holds. This is stated about
-- footprints, once.
use Rattle.std.proofs.Common.{ℕ, ℤ, ◌≡◌, List, [], ◌∷◌, ◌++◌, Contains, get_or, refl, sym, ap, ◌∙◌, subst, ◌⊎◌, inl, inr}
use Rattle.std.specs.Prelude.{map}
use Rattle.std.proofs.lemmas.Bool.{cases_Bool, true≢false}
use Rattle.std.proofs.lemmas.List.Elements.{All-contains, All-contains_itself}
use Rattle.paths.specs.Prefixes.{Names, is_prefix}
use Rattle.paths.proofs.PrefixLemmas.{is_prefix-append, is_prefix-both, is_prefix-same, is_prefix-trans, not_over_parent}
use Rattle.holds.specs.declared.held.Held.{Held}
use Rattle.holds.specs.declared.held.GivenPath.{GivenPath}
use Rattle.holds.specs.Conflicts.{IsSomePrefix}
use Rattle.tree.specs.declared.nodes.Key.{Key}
use Rattle.tree.specs.Places.{Lookup, IsPathOf, IsTree}
use Rattle.tree.proofs.Climbing.{named_at, path_same, path_under}
use Rattle.table_steps.proofs.Remaining.{HoldsPrefixes}
use Rattle.table_footprints.specs.Asked.{ArePaths, HasPath, Holds, IsAboveAt, IsExclusive, IsMisplaced, IsRefusedAt, IsRefusedBetween, IsPrefixAt, IsShared}
use Rattle.table_footprints.specs.Laws.{AreOwn, IsGrounded, base_of}
use Rattle.table_footprints.specs.Footprints.{AtName, AtNode, Change, Footprint, Location, cuts, exchanges, hides, moves, replaces, stays}
use Rattle.table_steps.specs.World.{RequestInFlight, IsReady, IsStanding, Work}
use Rattle.table_footprints.proofs.Members.{any_in, in_any, in_map, later_in, cases_in, first_in, none_in}
use Rattle.table_footprints.proofs.FootprintLemmas.{are_grounded}

pub map_in : {X Y : Type 0} → (f : X → Y) (xs : List X) (x : X) → Contains xs x → Contains (map f xs) (f x)
map_in f [] x h = absurd (none_in x h)
map_in f (y ∷ xs) x h = elim (cases_in y xs x h) [
  | inl e ↦ subst (λ z. Contains (f y ∷ map f xs) (f z)) e (first_in (f y) (map f xs))
  | inr more ↦ later_in (f y) (map f xs) (f x) (map_in f xs x more)
]

-- ---- what a footprint covers

-- a prefix of the path of a node is one of the location that is at or under it
prefix_at : (at : Lookup) (prefix p : Names) (l : Location) (n : ℕ) → base_of l ≡ n → IsPathOf at n p → IsSomePrefix prefix p → IsPrefixAt at prefix l
prefix_at at prefix p (AtNode m) n e leads some = record { path = p; leads = subst (λ k. IsPathOf at k p) (sym e) leads; begins = some }
prefix_at at prefix p (AtName m name) n e leads some = record {
  path = p ++ name ∷ [];
  leads = record { above = p; leads = subst (λ k. IsPathOf at k p) (sym e) leads; whole = refl };
  begins = record { some = some.some; begins = is_prefix-trans prefix p (p ++ name ∷ []) some.begins (is_prefix-append p (name ∷ [])) };
}

above_at : (at : Lookup) (prefix p : Names) (l : Location) (n : ℕ) → base_of l ≡ n → IsPathOf at n p → IsSomePrefix prefix p → IsAboveAt at prefix l ⊎ HasPath at l prefix
unfolding prefix_at
above_at at prefix p (AtNode m) n e leads some = elim (cases_Bool (is_prefix p prefix)) [
  | inl back ↦ inr (subst (λ k. IsPathOf at k prefix) (sym e) (subst (λ r. IsPathOf at n r) (is_prefix-both p prefix back some.begins) leads))
  | inr other ↦ inl (record {
    path = p;
    leads = subst (λ k. IsPathOf at k p) (sym e) leads;
    begins = some;
    other = λ same. true≢false (sym (is_prefix-same p) ∙ (ap (λ r. is_prefix p r) (sym same) ∙ other));
  })
]
above_at at prefix p (AtName m name) n e leads some =
    let pre = prefix_at at prefix p (AtName m name) n e leads some in
    inl (record {
      path = pre.path;
      leads = pre.leads;
      begins = pre.begins;
      other = λ same. true≢false (sym some.begins ∙ (ap (λ r. is_prefix r p) same ∙ not_over_parent p name));
    })

-- the pinned nodes keep the paths whose prefixes are held
abbrev pub KeepsPaths : Lookup → Lookup → List ℕ → Held → Type 0
KeepsPaths old new pins held = (n : ℕ) → Contains pins n → (q : Names) → HoldsPrefixes held q → IsPathOf old n q → IsPathOf new n q

module _ (old new : Lookup) (tree' : IsTree new) (d : Footprint) (held : Held) (footprint : IsGrounded d) (holds : Holds old d held) (f : RequestInFlight)
    (pinned : (n : ℕ) → Contains d.given n → Contains f.pins n) (keeps : KeepsPaths old new f.pins held) where
  -- the prefixes of the path of a given node are held
  pub prefixes_given : (n : ℕ) → Contains d.given n → (p : Names) → IsPathOf old n p → HoldsPrefixes held p
  prefixes_given n given p leads prefix some = elim (footprint.covered n given) [
    | inl any ↦
        let it = in_any (λ l. base_of l ≡ n) d.shared any in
        inl ((holds.shared prefix).1 (inl (any_in (IsPrefixAt old prefix) d.shared it.0 it.1 (prefix_at old prefix p it.0 n it.2 leads some))))
    | inr any ↦
        let it = in_any (λ l. base_of l ≡ n) d.exclusive any in
        elim (above_at old prefix p it.0 n it.2 leads some) [
          | inl above ↦ inl ((holds.shared prefix).1 (inr (any_in (IsAboveAt old prefix) d.exclusive it.0 it.1 above)))
          | inr whole ↦ inr ((holds.exclusive prefix).1 (any_in (λ l. HasPath old l prefix) d.exclusive it.0 it.1 whole))
        ]
  ]

  pub given_path : (n : ℕ) → Contains d.given n → (p : Names) × IsPathOf old n p
  given_path n given =
      let it = in_map (λ (lead : GivenPath). lead.number) held.given n (subst (λ ns. Contains ns n) (sym holds.numbers) given) in
      let leads : IsPathOf old it.0.number it.0.path = All-contains (λ (lead : GivenPath). IsPathOf old lead.number lead.path) held.given it.0 holds.leads it.1 in
      (it.0.path, subst (λ k. IsPathOf old k it.0.path) it.2 leads)

  node_forth : (n : ℕ) → Contains d.given n → (q : Names) → IsPathOf old n q → IsPathOf new n q
  node_forth n given q leads = keeps n (pinned n given) q (prefixes_given n given q leads) leads

  node_back : (n : ℕ) → Contains d.given n → (q : Names) → IsPathOf new n q → IsPathOf old n q
  node_back n given q leads =
      let was = given_path n given in
      subst (λ p. IsPathOf old n p) (path_same new tree'.rooted was.0 q n (node_forth n given was.0 was.1) leads) was.1

  forth : (l : Location) → Contains d.given (base_of l) → (q : Names) → HasPath old l q → HasPath new l q
  forth (AtNode n) given q leads = node_forth n given q leads
  forth (AtName p name) given q it = record { above = it.above; leads = node_forth p given it.above it.leads; whole = it.whole }

  back : (l : Location) → Contains d.given (base_of l) → (q : Names) → HasPath new l q → HasPath old l q
  back (AtNode n) given q leads = node_back n given q leads
  back (AtName p name) given q it = record { above = it.above; leads = node_back p given it.above it.leads; whole = it.whole }

  shared_forth : (p : Names) → IsShared old d p → IsShared new d p
  shared_forth p (inl any) =
      let it = in_any (IsPrefixAt old p) d.shared any in
      inl (any_in (IsPrefixAt new p) d.shared it.0 it.1 (record { path = it.2.path; leads = forth it.0 (footprint.shared it.0 it.1) it.2.path it.2.leads; begins = it.2.begins }))
  shared_forth p (inr any) =
      let it = in_any (IsAboveAt old p) d.exclusive any in
      inr (any_in (IsAboveAt new p) d.exclusive it.0 it.1 (record { path = it.2.path; leads = forth it.0 (footprint.exclusive it.0 it.1) it.2.path it.2.leads; begins = it.2.begins; other = it.2.other }))

  shared_back : (p : Names) → IsShared new d p → IsShared old d p
  shared_back p (inl any) =
      let it = in_any (IsPrefixAt new p) d.shared any in
      inl (any_in (IsPrefixAt old p) d.shared it.0 it.1 (record { path = it.2.path; leads = back it.0 (footprint.shared it.0 it.1) it.2.path it.2.leads; begins = it.2.begins }))
  shared_back p (inr any) =
      let it = in_any (IsAboveAt new p) d.exclusive any in
      inr (any_in (IsAboveAt old p) d.exclusive it.0 it.1 (record { path = it.2.path; leads = back it.0 (footprint.exclusive it.0 it.1) it.2.path it.2.leads; begins = it.2.begins; other = it.2.other }))

  alone_forth : (p : Names) → IsExclusive old d p → IsExclusive new d p
  alone_forth p any =
      let it = in_any (λ l. HasPath old l p) d.exclusive any in
      any_in (λ l. HasPath new l p) d.exclusive it.0 it.1 (forth it.0 (footprint.exclusive it.0 it.1) p it.2)

  alone_back : (p : Names) → IsExclusive new d p → IsExclusive old d p
  alone_back p any =
      let it = in_any (λ l. HasPath new l p) d.exclusive any in
      any_in (λ l. HasPath old l p) d.exclusive it.0 it.1 (back it.0 (footprint.exclusive it.0 it.1) p it.2)

  pub holds_kept : Holds new d held
  holds_kept = record {
    numbers = holds.numbers;
    leads = λ k e within.
        let lead = get_or held.given k e in
        let among : Contains held.given lead = All-contains_itself held.given k e within in
        let given : Contains d.given lead.number = subst (λ ns. Contains ns lead.number) holds.numbers (map_in (λ (x : GivenPath). x.number) held.given lead among) in
        node_forth lead.number given lead.path (holds.leads k e within);
    shared = λ p. (λ h. shared_forth p ((holds.shared p).0 h), λ h. (holds.shared p).1 (shared_back p h));
    exclusive = λ p. (λ h. alone_forth p ((holds.exclusive p).0 h), λ h. (holds.exclusive p).1 (alone_back p h));
  }

  refused_back : (s t : Location) → Contains d.given (base_of s) → Contains d.given (base_of t) → (e : ℤ) → IsRefusedAt new s t e → IsRefusedAt old s t e
  refused_back s t gs gt e it = record { path = it.path; leads = back s gs it.path it.leads; new_path = it.new_path; new_leads = back t gt it.new_path it.new_leads; refused = it.refused }

  between_back : (s t : Location) → Contains d.given (base_of s) → Contains d.given (base_of t) → (e : ℤ) → IsRefusedBetween new s t e → IsRefusedBetween old s t e
  between_back s t gs gt e it = record { path = it.path; leads = back s gs it.path it.leads; new_path = it.new_path; new_leads = back t gt it.new_path it.new_leads; refused = it.refused }

  -- the node at a shared name is still there
  standing_kept : (key : Key) → Contains d.shared (AtName key.parent key.name) → IsStanding old f key → IsStanding new f key
  standing_kept key shared it =
      let given : Contains d.given key.parent = footprint.shared (AtName key.parent key.name) shared in
      let up = given_path key.parent given in
      let whole = up.0 ++ key.name ∷ [] in
      let prefixes : HoldsPrefixes held whole = λ prefix some. inl ((holds.shared prefix).1 (inl (any_in (IsPrefixAt old prefix) d.shared (AtName key.parent key.name) shared
      (record { path = whole; leads = record { above = up.0; leads = up.1; whole = refl }; begins = some })))) in
      record {
        number = it.number;
        named = named_at new tree' it.number key.parent up.0 key.name (node_forth key.parent given up.0 up.1) (keeps it.number it.pin whole prefixes (path_under old it.number key.parent up.0 key.name it.named up.1));
        pin = it.pin;
      }

misplaced_back : (old new : Lookup) (tree' : IsTree new) (d : Footprint) (held : Held) (footprint : IsGrounded d) (holds : Holds old d held) (f : RequestInFlight) → ((n : ℕ) → Contains d.given n → Contains f.pins n) → KeepsPaths old new f.pins held
    → (change : Change) → AreOwn d.exclusive change → (e : ℤ) → IsMisplaced new change e → IsMisplaced old change e
misplaced_back old new tree' d held footprint holds f pinned keeps stays own e bad = bad
misplaced_back old new tree' d held footprint holds f pinned keeps (cuts l) own e bad = bad
misplaced_back old new tree' d held footprint holds f pinned keeps (moves s t) own e bad = refused_back old new tree' d held footprint holds f pinned keeps s t (footprint.exclusive s own.0) (footprint.exclusive t own.1) e bad
misplaced_back old new tree' d held footprint holds f pinned keeps (exchanges s t) own e bad = between_back old new tree' d held footprint holds f pinned keeps s t (footprint.exclusive s own.0) (footprint.exclusive t own.1) e bad
misplaced_back old new tree' d held footprint holds f pinned keeps (hides l c) own e bad = refused_back old new tree' d held footprint holds f pinned keeps l c (footprint.exclusive l own.0) (footprint.exclusive c own.1) e bad
misplaced_back old new tree' d held footprint holds f pinned keeps (replaces s t c moved) own e (inl bad) = inl (refused_back old new tree' d held footprint holds f pinned keeps s t (footprint.exclusive s own.0) (footprint.exclusive t own.1) e bad)
misplaced_back old new tree' d held footprint holds f pinned keeps (replaces s t c moved) own e (inr bad) = inr (refused_back old new tree' d held footprint holds f pinned keeps t c (footprint.exclusive t own.1) (footprint.exclusive c own.2) e bad)

module _ (old new : Lookup) (tree' : IsTree new) (f : RequestInFlight) (work : Work) (keeps : KeepsPaths old new f.pins work.held) (ready : IsReady old f work) where
  pub its_row : IsGrounded work.footprint
  its_row = subst (λ (d : Footprint). IsGrounded d) (sym ready.footprint) (are_grounded work.want ready.case)

  -- if the pinned nodes keep the paths whose prefixes a request holds, the request still has what it relies on,
  -- whatever its want
  pub ready_kept : IsReady new f work
  ready_kept =
      let footprint = its_row in
      record {
        case = ready.case;
        footprint = ready.footprint;
        holds = holds_kept old new tree' work.footprint work.held footprint ready.holds f ready.pinned keeps;
        pinned = ready.pinned;
        names = elim ready.names [
          | inl promised ↦ inl promised
          | inr all ↦ elim footprint.entered [
            | inl promised ↦ inl promised
            | inr shared ↦ inr (λ k e within.
                let key = get_or work.footprint.entries k e in
                standing_kept old new tree' work.footprint work.held footprint ready.holds f ready.pinned keeps key (shared key (All-contains_itself work.footprint.entries k e within)) (all k e within))
          ]
        ];
        placed = λ e bad. ready.placed e (misplaced_back old new tree' work.footprint work.held footprint ready.holds f ready.pinned keeps work.footprint.done footprint.own e bad);
        below = ready.below;
      }

  paths_of : (ls : List Location) → ((l : Location) → Contains ls l → Contains work.footprint.given (base_of l)) → (paths : List Names) → ArePaths old ls paths → ArePaths new ls paths
  paths_of [] given paths none = none
  paths_of (l ∷ ls) given paths (path, rest, spelt, leads, more) =
      (path, rest, spelt, forth old new tree' work.footprint work.held its_row ready.holds f ready.pinned keeps l (given l (first_in l ls)) path leads, paths_of ls (λ m h. given m (later_in l ls m h)) rest more)

  -- and the paths of its ticket are unchanged
  pub paths_kept : (paths : List Names) → ArePaths old work.footprint.paths paths → ArePaths new work.footprint.paths paths
  paths_kept paths are = paths_of work.footprint.paths its_row.paths paths are
