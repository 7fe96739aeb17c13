-- What the end of a request's work removes still has no open file if nodes and files changed elsewhere.
use Rattle.std.proofs.Common.{ℕ, ◌≡◌, ◌≢◌, ◌&&◌, if◌then◌else◌, Bool, true, false, not, [], ◌∷◌, ◌++◌, Some, Contains, reverse, refl, sym, ap, ◌∙◌, subst, inl, inr}
use Rattle.std.proofs.lemmas.Bool.{cases_Bool, true≢false}
use Rattle.std.proofs.lemmas.List.Elements.{All-contains}
use Rattle.holds.specs.declared.held.GivenPath.{GivenPath}
use Rattle.holds.specs.declared.held.Held.{Held}
use Rattle.paths.specs.Prefixes.{Names, is_prefix}
use Rattle.paths.proofs.PrefixLemmas.{is_prefix-both, is_prefix-same}
use Rattle.table_files.specs.Handles.{Files, IsOpen}
use Rattle.table_footprints.specs.Asked.{HasPath, Holds, IsAboveAt, IsThere}
use Rattle.table_footprints.specs.Footprints.{AtName, AtNode, Footprint, Location, are_same, footprint_of, hidden_in, names_under}
use Rattle.table_footprints.specs.Laws.{AreOwn, IsGrounded, base_of}
use Rattle.table_footprints.proofs.FootprintLemmas.{are_grounded}
use Rattle.table_footprints.proofs.Members.{any_in, first_in, in_map, later_in, none_in, only_in}
use Rattle.table_requests.specs.declared.data.Case.{Case}
use Rattle.table_requests.specs.declared.data.Want.{Want}
use Rattle.table_requests.specs.declared.data.Want.TheVariants as wants
use Rattle.tree.specs.Places.{Lookup, IsPathOf, IsTree}
use Rattle.tree.specs.declared.nodes.Node.{Node}
use Rattle.tree.proofs.Climbing.{climbs_alive, named_at, path_once, path_under}
use Rattle.table_steps.specs.World.{IsClosedAt, IsReady, IsUndisturbed, RequestInFlight, Work, hidden_at}
use Rattle.table_steps.proofs.Guarding.{path_some}
use Rattle.table_steps.proofs.Remaining.{HoldsPrefixes}

-- ---- the locations are held exclusively

pub if_in : {X : Type 0} (b : Bool) (x y : X) → Contains (if b then x ∷ [] else []) y → (b ≡ true) × (x ≡ y)
if_in true x y h = (refl, only_in x y h)
if_in false x y h = absurd (none_in y h)

own_hidden : (want : Want) (case : Case) (l : Location) → Contains (hidden_at want) l → Contains (footprint_of want case).exclusive l
own_hidden (wants.Node number handle) case l h = absurd (none_in l h)
own_hidden (wants.Name parent name) case l h = absurd (none_in l h)
own_hidden (wants.Remove parent name may_hide) case l h =
    let e = (if_in may_hide (AtName parent name) l h).1 in
    subst (λ (m : Location). Contains (footprint_of (wants.Remove parent name may_hide) case).exclusive m) e (first_in (AtName parent name) (names_under parent (hidden_in case)))
own_hidden (wants.Move p a q b keep) case l h =
    let e = (if_in (not keep && not (are_same (AtName p a) (AtName q b))) (AtName q b) l h).1 in
    subst (λ (m : Location). Contains (footprint_of (wants.Move p a q b keep) case).exclusive m) e
    (later_in (AtName p a) (AtName q b ∷ names_under q (hidden_in case)) (AtName q b) (first_in (AtName q b) (names_under q (hidden_in case))))
own_hidden (wants.Exchange p a q b) case l h = absurd (none_in l h)
own_hidden (wants.Page folder names) case l h = absurd (none_in l h)
own_hidden (wants.Open number access) case l h = absurd (none_in l h)
own_hidden (wants.Create parent name access) case l h = absurd (none_in l h)
own_hidden (wants.Release number fh) case l h = absurd (none_in l h)
own_hidden (wants.Link number parent name) case l h = absurd (none_in l h)

-- ---- paths of locations

pub there_path : (at : Lookup) (l : Location) (n : ℕ) (p : Names) → HasPath at l p → IsThere at l n → IsPathOf at n p
there_path at (AtNode m) n p h e = subst (λ k. IsPathOf at k p) (sym e) h
there_path at (AtName parent name) n p it named = subst (λ r. IsPathOf at n r) (sym it.whole) (path_under at n parent it.above name named it.leads)

path_there : (at : Lookup) → IsTree at → (l : Location) (n : ℕ) (p : Names) → HasPath at l p → IsPathOf at n p → IsThere at l n
path_there at tree (AtNode m) n p h leads = path_once at tree p n m leads h
path_there at tree (AtName parent name) n p it leads = named_at at tree n parent it.above name it.leads (subst (λ r. IsPathOf at n r) it.whole leads)

-- each prefix of the path of a location that is held exclusively is held
pub prefixes_own : (at : Lookup) (d : Footprint) (held : Held) → Holds at d held → (l : Location) → Contains d.exclusive l → (q : Names) → HasPath at l q → HoldsPrefixes held q
prefixes_own at d held holds l own q leads prefix some = elim (cases_Bool (is_prefix q prefix)) [
  | inl back ↦ inr ((holds.exclusive prefix).1 (any_in (λ m. HasPath at m prefix) d.exclusive l own (subst (λ r. HasPath at l r) (is_prefix-both q prefix back some.begins) leads)))
  | inr other ↦ inl ((holds.shared prefix).1 (inr (any_in (IsAboveAt at prefix) d.exclusive l own (record {
    path = q;
    leads = leads;
    begins = some;
    other = λ same. true≢false (sym (is_prefix-same q) ∙ (ap (λ r. is_prefix q r) (sym same) ∙ other));
  }))))
]

module _ (old new : Lookup) (d : Footprint) (held : Held) (holds : Holds old d held) (holds' : Holds new d held) where
  given_both : (n : ℕ) → Contains d.given n → (p : Names) × IsPathOf old n p × IsPathOf new n p
  given_both n given =
      let it = in_map (λ (lead : GivenPath). lead.number) held.given n (subst (λ ns. Contains ns n) (sym holds.numbers) given) in
      let was : IsPathOf old it.0.number it.0.path = All-contains (λ (lead : GivenPath). IsPathOf old lead.number lead.path) held.given it.0 holds.leads it.1 in
      let is : IsPathOf new it.0.number it.0.path = All-contains (λ (lead : GivenPath). IsPathOf new lead.number lead.path) held.given it.0 holds'.leads it.1 in
      (it.0.path, subst (λ k. IsPathOf old k it.0.path) it.2 was, subst (λ k. IsPathOf new k it.0.path) it.2 is)

  -- a location has the same path before and after
  pub located : (l : Location) → Contains d.given (base_of l) → (p : Names) × HasPath old l p × HasPath new l p
  located (AtNode n) given = given_both n given
  located (AtName parent name) given =
      let it = given_both parent given in
      (it.0 ++ name ∷ [], record { above = it.0; leads = it.1; whole = refl }, record { above = it.0; leads = it.2; whole = refl })

-- ---- what had no open file still has none

module _ (old new : Lookup) (files files' : Files) (f : RequestInFlight) (work : Work) (tree : IsTree old) (ready : IsReady old f work) (ready' : IsReady new f work)
    (back : (p : Names) → Contains work.held.exclusive p → HoldsPrefixes work.held p → p ≢ [] → (n : ℕ) → IsPathOf new n p → IsOpen files' n → IsPathOf old n p × IsOpen files n)
    (mark : (n : ℕ) (p : Names) → IsPathOf new n p → (x : Node) → old n ≡ Some x → x.hidden ≡ true → (z : Node) → new n ≡ Some z → z.hidden ≡ true) where
  row : IsGrounded work.footprint
  row = subst (λ (d : Footprint). IsGrounded d) (sym ready.footprint) (are_grounded work.want ready.case)

  closed_still : (l : Location) → Contains work.footprint.exclusive l → IsClosedAt old files l → IsClosedAt new files' l
  closed_still l own was n there isopen =
      let it = located old new work.footprint work.held ready.holds ready'.holds l (row.exclusive l own) in
      let among : Contains work.held.exclusive it.0 = (ready.holds.exclusive it.0).1 (any_in (λ m. HasPath old m it.0) work.footprint.exclusive l own it.1) in
      let prefixes = prefixes_own old work.footprint work.held ready.holds l own it.0 it.1 in
      let some = path_some old l work.footprint.exclusive ready.below own it.0 it.1 in
      let b = back it.0 among prefixes some n (there_path new l n it.0 it.2 there) isopen in
      was n (path_there old tree l n it.0 it.1 b.0) b.1

  pub undisturbed_on : IsUndisturbed old files work → IsUndisturbed new files' work
  undisturbed_on was = record {
    removal = λ none l hidden.
        let own : Contains work.footprint.exclusive l = subst (λ (d : Footprint). Contains d.exclusive l) (sym ready.footprint) (own_hidden work.want ready.case l hidden) in
        closed_still l own (was.removal none l hidden);
    release = λ number cut.
        let own : Contains work.footprint.exclusive (AtNode number) = subst (λ change. AreOwn work.footprint.exclusive change) cut row.own in
        closed_still (AtNode number) own (was.release number cut);
    marked = λ number cut z here.
        let own : Contains work.footprint.exclusive (AtNode number) = subst (λ change. AreOwn work.footprint.exclusive change) cut row.own in
        let it = located old new work.footprint work.held ready.holds ready'.holds (AtNode number) (row.exclusive (AtNode number) own) in
        let lives = climbs_alive old tree.rooted (reverse it.0) number it.1 in
        mark number it.0 it.2 lives.0 lives.1 (was.marked number cut lives.0 lives.1) z here;
  }
