-- Where a step moves nodes: a node that is at a path afterwards was there before, if the target of the change is not a
-- prefix of that path.
use Rattle.std.proofs.Common.{ℕ, ◌&&◌, ◌≡◌, Bool, true, false, List, [], ◌∷◌, ◌++◌, ◌+◌, ◌-◌, ◌⊎◌, if◌then◌else◌, Option, Some, None, drop, length, reverse, refl, sym, ap, ◌∙◌, subst, inl, inr}
use Rattle.std.proofs.lemmas.Bool.{cases_Bool, cases_eq, cond-false, cond-true, true≢false}
use Rattle.std.proofs.lemmas.Option.{none-some, same_Some}
use Rattle.ledger.specs.Periods.{Periods}
use Rattle.paths.specs.Prefixes.{Name, Names, is_prefix}
use Rattle.paths.proofs.PrefixLemmas.{is_prefix-append}
use Rattle.table_requests.specs.declared.data.Given.{Given}
use Rattle.tree.specs.declared.nodes.Key.{Key}
use Rattle.tree.specs.declared.nodes.Node.{Node}
use Rattle.tree.specs.declared.nodes.Place.{Place}
use Rattle.tree.specs.declared.nodes.Place.TheVariants.{Root, Named, Cut}
use Rattle.tree.specs.Moves.{Stands, Where, after_cut, after_exchange, after_move, at_path, cut}
use Rattle.tree.specs.Places.{Lookup, IsCut, IsPathOf, IsRooted, IsTree, Reaches, with_node}
use Rattle.tree.proofs.Climbing.{climbs_alive, path_of_lead, path_same}
use Rattle.tree.proofs.LookupLemmas.{with_other, with_same}
use Rattle.tree.proofs.Transfers.{cut_pathless}
use Rattle.table_steps.specs.Entries.{Enters, TakesAllBack, TakesBack, TakesNone, newborn}
use Rattle.table_steps.specs.Steps.{EntersAll, Marks, after_follow, none_there, one_there}
use Rattle.table_steps.specs.Swept.{IsSwept}
use Rattle.table_footprints.specs.Footprints.{Location}
use Rattle.table_steps.specs.World.{RequestsInFlight}
use Rattle.table_steps.proofs.Following.{follow_cut, follow_move, leads_on}

-- ---- changes of place

no_cut : (q : Names) → cut ≡ at_path q → ⊥
no_cut q e = cc

abbrev path_in : Where → Names
path_in (at_path p) = p
path_in cut = []

-- a longer path with the prefix t begins with t
begins_on : (t more q : Names) → at_path (t ++ more) ≡ at_path q → is_prefix t q ≡ true
begins_on t more q e = subst (λ (r : Names). is_prefix t r ≡ true) (ap path_in e) (is_prefix-append t more)

pub cut_from : (p q : Names) (w : Where) → after_cut p w ≡ at_path q → w ≡ at_path q
cut_from p q cut e = e
cut_from p q (at_path r) e = elim (cases_Bool (is_prefix p r)) [
  | inl hit ↦ absurd (no_cut q (sym (cond-true (is_prefix p r) cut (at_path r) hit) ∙ e))
  | inr miss ↦ sym (cond-false (is_prefix p r) cut (at_path r) miss) ∙ e
]

pub moved_from : (p t q : Names) → is_prefix t q ≡ false → (w : Where) → after_move p t w ≡ at_path q → w ≡ at_path q
moved_from p t q apart cut e = e
moved_from p t q apart (at_path r) e =
    let on : Where = at_path (t ++ drop (length p) r) in
    let low : Where = (if is_prefix p r then on else at_path r) in
    elim (cases_Bool (is_prefix p t && is_prefix t p)) [
      | inl both ↦ sym (cond-true (is_prefix p t && is_prefix t p) (at_path r) (if is_prefix t r then cut else low) both) ∙ e
      | inr other ↦
          let f = sym (cond-false (is_prefix p t && is_prefix t p) (at_path r) (if is_prefix t r then cut else low) other) ∙ e in
          elim (cases_Bool (is_prefix t r)) [
            | inl under ↦ absurd (no_cut q (sym (cond-true (is_prefix t r) cut low under) ∙ f))
            | inr beside ↦
                let g = sym (cond-false (is_prefix t r) cut low beside) ∙ f in
                elim (cases_Bool (is_prefix p r)) [
                  | inl along ↦ absurd (true≢false (sym (begins_on t (drop (length p) r) q (sym (cond-true (is_prefix p r) on (at_path r) along) ∙ g)) ∙ apart))
                  | inr off ↦ sym (cond-false (is_prefix p r) on (at_path r) off) ∙ g
                ]
          ]
    ]

pub exchanged_from : (p t q : Names) → is_prefix t q ≡ false → is_prefix p q ≡ false → (w : Where) → after_exchange p t w ≡ at_path q → w ≡ at_path q
exchanged_from p t q apart beside cut e = e
exchanged_from p t q apart beside (at_path r) e =
    let on : Where = at_path (t ++ drop (length p) r) in
    let back : Where = at_path (p ++ drop (length t) r) in
    elim (cases_Bool (is_prefix p r)) [
      | inl along ↦ absurd (true≢false (sym (begins_on t (drop (length p) r) q (sym (cond-true (is_prefix p r) on (if is_prefix t r then back else at_path r) along) ∙ e)) ∙ apart))
      | inr off ↦
          let f = sym (cond-false (is_prefix p r) on (if is_prefix t r then back else at_path r) off) ∙ e in
          elim (cases_Bool (is_prefix t r)) [
            | inl under ↦ absurd (true≢false (sym (begins_on p (drop (length t) r) q (sym (cond-true (is_prefix t r) back (at_path r) under) ∙ f)) ∙ beside))
            | inr clear ↦ sym (cond-false (is_prefix t r) back (at_path r) clear) ∙ f
          ]
    ]

pub followed_from : (c p t q : Names) → is_prefix t q ≡ false → (w : Where) → after_follow c p t w ≡ at_path q → w ≡ at_path q
followed_from c p t q apart w e = elim (cases_Bool (leads_on c p)) [
  | inl on ↦ cut_from t q w (sym (ap (λ (f : Where → Where). f w) (follow_cut c p t on)) ∙ e)
  | inr off ↦ moved_from p t q apart w (sym (ap (λ (f : Where → Where). f w) (follow_move c p t off)) ∙ e)
]

-- ---- nodes that keep their places

-- and their hidden marks, if they have any
pub record KeepsPlaces (old new : Lookup) : Type 0 where
  pub place : (n : ℕ) (x : Node) → old n ≡ Some x → (y : Node) × (new n ≡ Some y) × (y.place ≡ x.place) × (x.hidden ≡ true → y.hidden ≡ true)

same_places : (old new : Lookup) → new ≡ old → KeepsPlaces old new
same_places old new same = record { place = λ n x here. (x, ap (λ (at : Lookup). at n) same ∙ here, refl, λ marked. marked) }

then_keeps : (old mid new : Lookup) → KeepsPlaces old mid → KeepsPlaces mid new → KeepsPlaces old new
then_keeps old mid new one two = record {
  place = λ n x here.
      let a = one.place n x here in
      let b = two.place n a.0 a.1 in
      (b.0, b.1, b.2 ∙ a.2, λ marked. b.3 (a.3 marked));
}

pub written_keeps : (at : Lookup) (n : ℕ) (x y : Node) → at n ≡ Some x → y.place ≡ x.place → (x.hidden ≡ true → y.hidden ≡ true) → KeepsPlaces at (with_node at n y)
written_keeps at n x y stood place mark = record {
  place = λ m z here. elim (cases_eq n m) [
    | inl e ↦
        let same : z ≡ x = same_Some z x (sym here ∙ (ap at (sym e) ∙ stood)) in
        (y, subst (λ k. with_node at n y k ≡ Some y) e (with_same at n y), place ∙ ap (λ (w : Node). w.place) (sym same), λ marked. mark (ap (λ (w : Node). w.hidden) (sym same) ∙ marked))
    | inr ne ↦ (z, with_other at n y m ne ∙ here, refl, λ marked. marked)
  ];
}

born_keeps : (at : Lookup) (n : ℕ) (y : Node) → at n ≡ None → KeepsPlaces at (with_node at n y)
born_keeps at n y fresh = record { place = λ m z here. (z, with_other at n y m (λ e. none-some z (sym fresh ∙ (ap at e ∙ here))) ∙ here, refl, λ marked. marked) }

entered_keeps : (at : Lookup) (ps : Periods) (parent : ℕ) (name : Name) (g : Given) (at' : Lookup) (qs : Periods) → Enters at ps parent name g at' qs → KeepsPlaces at at'
entered_keeps at ps parent name g at' qs (inl again) = subst (λ (l : Lookup). KeepsPlaces at l) (sym again.nodes) (written_keeps at g.number again.node (record again.node { count = again.node.count + 1 }) again.here refl (λ marked. marked))
entered_keeps at ps parent name g at' qs (inr born) = subst (λ (l : Lookup). KeepsPlaces at l) (sym born.nodes) (born_keeps at g.number (newborn g parent name) born.fresh)

pub entries_keep : (owners : RequestsInFlight) (at at' : Lookup) (ps qs : Periods) (keys : List Key) (found : List Bool) (given : List (Option Given)) → EntersAll owners at ps keys found given at' qs → KeepsPlaces at at'
entries_keep owners at at' ps qs (key ∷ keys) (true ∷ found) (Some g ∷ given) (free, (mid, rs, enters, more)) =
    then_keeps at mid at' (entered_keeps at ps key.parent key.name g mid rs enters) (entries_keep owners mid at' rs qs keys found given more)
entries_keep owners at at' ps qs (key ∷ keys) (true ∷ found) (None ∷ given) (owned, more) = entries_keep owners at at' ps qs keys found given more
entries_keep owners at at' ps qs (key ∷ keys) (false ∷ found) (None ∷ given) more = entries_keep owners at at' ps qs keys found given more
entries_keep owners at at' ps qs [] [] [] same = same_places at at' same.0
entries_keep owners at at' ps qs keys found given bad = absurd bad

back_keeps : (at : Lookup) (ps : Periods) (n : ℕ) (at' : Lookup) (qs : Periods) → TakesBack at ps n at' qs ⊎ TakesNone at ps n at' qs → KeepsPlaces at at'
back_keeps at ps n at' qs (inl back) = subst (λ (l : Lookup). KeepsPlaces at l) (sym back.nodes) (written_keeps at n back.node (record back.node { count = back.node.count - 1 }) back.here refl (λ marked. marked))
back_keeps at ps n at' qs (inr none) = same_places at at' none.nodes

pub backs_keep : (at : Lookup) (ps : Periods) (ns : List ℕ) (at' : Lookup) (qs : Periods) → TakesAllBack at ps ns at' qs → KeepsPlaces at at'
backs_keep at ps [] at' qs same = same_places at at' same.0
backs_keep at ps (n ∷ ns) at' qs (mid, rs, one, more) = then_keeps at mid at' (back_keeps at ps n mid rs one) (backs_keep mid rs ns at' qs more)

pub marks_keep : (before old new : Lookup) (l : Location) → Marks before l old new → KeepsPlaces old new
marks_keep before old new l (none_there none same) = same_places old new same
marks_keep before old new l (one_there m x there here same) = subst (λ (at : Lookup). KeepsPlaces old at) (sym same) (written_keeps old m x (record x { hidden = true }) here refl (λ marked. refl))

reaches_kept : (old new : Lookup) → KeepsPlaces old new → (n : ℕ) (way : Names) → Reaches old 1 n way → Reaches new 1 n way
reaches_kept old new keeps n [] h = h
reaches_kept old new keeps n (name ∷ way) (p, named, rest) =
    let it = keeps.place n named.0 named.1 in
    (p, (it.0, it.1, it.2 ∙ named.2), reaches_kept old new keeps p way rest)

pub stands_kept : (old new : Lookup) → KeepsPlaces old new → (n : ℕ) (w : Where) → Stands old n w → Stands new n w
stands_kept old new keeps n (at_path q) h = reaches_kept old new keeps n (reverse q) h
stands_kept old new keeps n cut h = let it = keeps.place n h.0 h.1 in (it.0, it.1, it.2 ∙ h.2)

-- ---- where a node is

stood_at : (at : Lookup) → IsTree at → (n : ℕ) (x : Node) → at n ≡ Some x → (p : Place) → x.place ≡ p → (w : Where) × Stands at n w
stood_at at tree n x here Root e = (at_path [], tree.only_root n x here e)
stood_at at tree n x here (Named key) e = let it = path_of_lead at n (tree.reached n key.parent key.name (x, here, e)) in (at_path it.0, it.1)
stood_at at tree n x here Cut e = (cut, (x, here, e))

-- a living node is somewhere
pub somewhere : (at : Lookup) → IsTree at → (n : ℕ) (x : Node) → at n ≡ Some x → (w : Where) × Stands at n w
somewhere at tree n x here = stood_at at tree n x here x.place refl

-- what remains after a sweep was there before
reaches_back : (mid new : Lookup) → ((n : ℕ) (x : Node) → new n ≡ Some x → mid n ≡ Some x) → (n : ℕ) (way : Names) → Reaches new 1 n way → Reaches mid 1 n way
reaches_back mid new kept n [] h = h
reaches_back mid new kept n (name ∷ way) (p, named, rest) = (p, (named.0, kept n named.0 named.1, named.2), reaches_back mid new kept p way rest)

module _ (kept : ℕ → Bool) (mid new : Lookup) (tree' : IsTree new) (swept : IsSwept kept mid new) where
  pub path_unswept : (n : ℕ) (q : Names) → IsPathOf new n q → IsPathOf mid n q
  path_unswept n q h = reaches_back mid new swept.kept n (reverse q) h

  pub rooted_unswept : IsRooted mid
  rooted_unswept = record { node = tree'.rooted.node; here = swept.kept 1 tree'.rooted.node tree'.rooted.here; root = tree'.rooted.root; generation = tree'.rooted.generation }

  pub where_swept : (n : ℕ) (v : Where) → Stands mid n v → (q : Names) → IsPathOf new n q → v ≡ at_path q
  where_swept n (at_path r) stands q h = ap at_path (path_same mid rooted_unswept r q n stands (path_unswept n q h))
  where_swept n cut stands q h =
      let it = climbs_alive new tree'.rooted (reverse q) n h in
      let same : it.0 ≡ stands.0 = same_Some it.0 stands.0 (sym (swept.kept n it.0 it.1) ∙ stands.1) in
      let lost : IsCut new n = (it.0, it.1, ap (λ (y : Node). y.place) same ∙ stands.2) in
      absurd (cut_pathless new tree' n q lost h)
