-- What closing the last handle of a hidden file reserves.
use Rattle.std.proofs.Common.{ℕ, true, ◌≤◌, ◌≡◌, ◌≢◌, ◌↔◌, ◌++◌, List, [], ◌∷◌, All, Contains, reverse, refl, sym, ap, ◌∙◌, subst, inl, inr, arith}
use Rattle.std.specs.Prelude.{map}
use Rattle.std.proofs.lemmas.Bool.{true≢false}
use Rattle.std.proofs.lemmas.List.{reverse-append, reverse-reverse}
use Rattle.std.proofs.lemmas.List.Elements.{All-cons, All-nil}
use Rattle.table_requests.specs.declared.data.Case.{Case}
use Rattle.table_requests.specs.declared.data.Case.TheVariants as cases
use Rattle.table_requests.specs.declared.data.Promise.{Promise}
use Rattle.holds.specs.declared.held.GivenPath.{GivenPath}
use Rattle.holds.specs.declared.held.Held.{Held}
use Rattle.paths.specs.Prefixes.{Name, Names, is_prefix, path_bytes, prefixes}
use Rattle.holds.proofs.Prefixing.{prefixes_are}
use Rattle.paths.proofs.PrefixLemmas.{is_prefix-append, is_prefix-trans, not_over_parent}
use Rattle.tree.specs.Places.{Lookup, IsPathOf, IsTree, Leads, Reaches}
use Rattle.table_footprints.specs.declared.gatherings.Reservation.{Reservation}
use Rattle.table_footprints.specs.Asked.{HasPath, Holds, IsAboveAt, IsLong, IsPin, IsPrefixAt, IsStale, IsThere}
use Rattle.table_footprints.specs.Gatherings.{IsClosingPath, IsHeldExclusively, IsReservation}
use Rattle.table_footprints.specs.Footprints.{Footprint, AtNode, closed_footprint, hidden_in}
use Rattle.table_footprints.proofs.Agreeing.{prefix_above}
use Rattle.table_footprints.proofs.Finding.{location_once}
use Rattle.table_footprints.proofs.Members.{any_first, any_none, any_only, first_in, only_in}

-- ---- the path above a node

-- a path other than the root's is the path of the parent followed by a name
split : (at : Lookup) (n : ℕ) (way : Names) → n ≢ 1 → Reaches at 1 n way → (path : Names) → path ≡ reverse way → (up : Names) × (name : Name) × (path ≡ up ++ name ∷ [])
split at n [] other leads path is = absurd (other leads)
split at n (name ∷ way) other leads path is = (reverse way, name, is ∙ reverse-append (name ∷ []) way)

parted : (at : Lookup) (n : ℕ) (path : Names) → n ≢ 1 → IsPathOf at n path → (up : Names) × (name : Name) × (path ≡ up ++ name ∷ [])
parted at n path other leads = split at n (reverse path) other leads path (sym (reverse-reverse path))

module _ (at : Lookup) (tree : IsTree at) (number : ℕ) (path : Names) (leads : IsPathOf at number path) where
  above_is : (up : Names) (name : Name) → path ≡ up ++ name ∷ [] → (p : Names) → Contains (prefixes up) p ↔ IsAboveAt at p (AtNode number)
  above_is up name whole p = (
    λ h.
        let it = (prefixes_are up).only p h in
        let begins : is_prefix p (up ++ name ∷ []) ≡ true = is_prefix-trans p up (up ++ name ∷ []) it.begins (is_prefix-append up (name ∷ [])) in
        record {
          path = path;
          leads = leads;
          begins = record { some = it.some; begins = subst (λ (q : Names). is_prefix p q ≡ true) (sym whole) begins };
          other = λ e. true≢false (sym it.begins ∙ (ap (λ (r : Names). is_prefix r up) (e ∙ whole) ∙ not_over_parent up name));
        },
    λ it.
        let same : it.path ≡ up ++ name ∷ [] = location_once at tree (AtNode number) it.path path it.leads leads ∙ whole in
        (prefixes_are up).all p (record {
          some = it.begins.some;
          begins = prefix_above p up name (subst (λ (q : Names). is_prefix p q ≡ true) same it.begins.begins) (λ e. it.other (e ∙ sym same));
        }),
  )

  pub above_held : number ≢ 1 → (up : Names) → ((above : Names) (name : Name) → path ≡ above ++ name ∷ [] → up ≡ above) → (p : Names) → Contains (prefixes up) p ↔ IsAboveAt at p (AtNode number)
  above_held other up is p =
      let it = parted at number path other leads in
      subst (λ (q : Names). Contains (prefixes q) p ↔ IsAboveAt at p (AtNode number)) (sym (is it.0 it.1 it.2)) (above_is it.0 it.1 it.2 p)

  -- ---- what it reserves

  abbrev footprint : Footprint
  footprint = closed_footprint number cases.Last

  not_stale : IsStale at footprint → ⊥
  not_stale s =
      let way : Leads at number = record { names = reverse path; climb = leads } in
      s.lost (subst (λ n. Leads at n) (only_in number s.number s.named) way)

  not_long : path_bytes path ≤ 4096 → IsLong at footprint → ⊥
  not_long short s =
      let same : path ≡ s.path = location_once at tree (AtNode number) path s.path leads (subst (λ l. HasPath at l s.path) (sym (only_in (AtNode number) s.location s.asked)) s.leads) in
      let few : path_bytes s.path ≤ 4096 = subst (λ (p : Names). path_bytes p ≤ 4096) same short in
      let over = s.long in
      omega (arith, over, few)

  last_holds : (held : Held) → IsHeldExclusively at number path held → Holds at footprint held
  last_holds held is = record {
    numbers = ap (λ (leads : List GivenPath). map (λ (lead : GivenPath). lead.number) leads) is.given;
    leads = subst (λ (all : List GivenPath). All (λ (lead : GivenPath). IsPathOf at lead.number lead.path) all) (sym is.given)
        (All-cons (λ (lead : GivenPath). IsPathOf at lead.number lead.path) (record { number = number; path = path }) [] leads (All-nil (λ (lead : GivenPath). IsPathOf at lead.number lead.path)));
    shared = λ p. (
      λ h. inr (any_first (IsAboveAt at p) (AtNode number) [] ((is.shared p).0 h)),
      λ h. elim h [ inl none ↦ absurd (any_none (IsPrefixAt at p) none) | inr any ↦ (is.shared p).1 (any_only (IsAboveAt at p) (AtNode number) any) ],
    );
    exclusive = λ p. (
      λ h. any_first (λ l. HasPath at l p) (AtNode number) [] (subst (λ (q : Names). IsPathOf at number q) (only_in path p (subst (λ (ps : List Names). Contains ps p) is.exclusive h)) leads),
      λ h. subst (λ (ps : List Names). Contains ps p) (sym is.exclusive)
          (subst (λ (q : Names). Contains (path ∷ []) q) (location_once at tree (AtNode number) path p leads (any_only (λ l. HasPath at l p) (AtNode number) h)) (first_in path [])),
    );
  }

  last_pins : (pins : List ℕ) → pins ≡ number ∷ [] → (n : ℕ) → Contains pins n ↔ IsPin at footprint n
  last_pins pins is n = (
    λ h. inl (subst (λ (ns : List ℕ). Contains ns n) is h),
    λ h. subst (λ (ns : List ℕ). Contains ns n) (sym is) (elim h [
      | inl named ↦ named
      | inr any ↦ subst (λ k. Contains (number ∷ []) k) (sym (any_only (λ l. IsThere at l n) (AtNode number) any)) (first_in number [])
    ]),
  )

  pub last_agreed : (t : Reservation) → path_bytes path ≤ 4096 → t.case ≡ cases.Last → t.candidates ≡ [] → IsHeldExclusively at number path t.held → (let p : Promise = record { nodes = 0; postings = 0; files = 0 } in t.promise ≡ p) → t.answer.items ≡ [] → t.pins.numbers ≡ number ∷ []
      → t.paths ≡ path ∷ [] → IsClosingPath at number true t
  last_agreed t short case_is candidates held promise answer pins paths = record {
    case_is = case_is;
    short = (path, leads, short);
    reservation = subst (λ (c : Case). IsReservation at (closed_footprint number c) t) (sym case_is) (record {
      sound = record { not_stale = not_stale; not_long = not_long short; not_misplaced = λ e bad. bad };
      holds = last_holds t.held held;
      pins = last_pins t.pins.numbers pins;
      paths = (path, [], paths, leads, refl);
      promise = promise;
      pin_room = omega arith;
      answer_room = omega arith;
      unanswered = answer;
      candidates = candidates ∙ ap (λ (k : Case). hidden_in k) (sym case_is);
    });
  }
