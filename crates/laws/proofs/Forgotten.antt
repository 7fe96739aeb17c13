-- A node whose lookups are all forgotten is dropped, if nothing else keeps it alive: no later request on it begins.
use Rattle.std.proofs.Common.{ℕ, ◌-◌, ◌<◌, ◌≤◌, ◌≡◌, ◌≢◌, Bool, false, [], ◌∷◌, Contains, Some, min, refl, sym, ap, ◌∙◌, subst, inl, inr, arith}
use Rattle.std.proofs.lemmas.Bool.{cases_eq, true≢false}
use Rattle.std.proofs.lemmas.Option.{same_Some}
use Rattle.paths.specs.Prefixes.{Names as Path}
use Rattle.table_files.specs.Handles.{Files, IsOpen}
use Rattle.table_footprints.specs.Footprints.{Footprint}
use Rattle.table_law.specs.Law.{HasReason, HaveReasons}
use Rattle.laws.specs.Forgetting.{AreForgottenGone, IsKeptByCount}
use Rattle.table_steps.specs.Steps.{Forgets, Takes}
use Rattle.table.specs.Renewing.{ForgetsAnew}
use Rattle.table.proofs.Closing.{renewed_is}
use Rattle.table_steps.specs.World.{AreKept, IsLawfulWorld, IsPinned, RequestsInFlight, World}
use Rattle.tree.proofs.LookupLemmas.{with_same, with_some}
use Rattle.tree.specs.declared.nodes.Node.{Node}
use Rattle.tree.specs.Places.{HasChild, IsAlive, Leads, Lookup, Reaches, with_node}

-- without a count, a mark, a pin, an open file and a child a node has no reason
no_reason : (at : Lookup) (flights : RequestsInFlight) (files : Files) (kept : ℕ → Bool) → AreKept flights files kept → (n : ℕ) (z : Node) → z.count ≡ 0 → z.hidden ≡ false → (IsPinned flights n → ⊥) → (IsOpen files n → ⊥) → (HasChild at n → ⊥) → HasReason at kept n z → ⊥
no_reason at flights files kept keeps n z count hidden pinned opened child (inl counted) = omega (arith, counted, count)
no_reason at flights files kept keeps n z count hidden pinned opened child (inr (inl marked)) = true≢false (sym marked ∙ hidden)
no_reason at flights files kept keeps n z count hidden pinned opened child (inr (inr (inl is))) = elim ((keeps n).0 is) [ inl pin ↦ pinned pin | inr file ↦ opened file ]
no_reason at flights files kept keeps n z count hidden pinned opened child (inr (inr (inr has))) = child has

-- a number other than the root's from which a way leads has a living node
stands : (at : Lookup) (n : ℕ) (names : Path) → n ≢ 1 → Reaches at 1 n names → IsAlive at n
stands at n [] ne root = absurd (ne root)
stands at n (name ∷ up) ne (p, named, rest) = (named.0, named.1)

child_before : (at new : Lookup) (n : ℕ) (x y : Node) → at n ≡ Some x → y.place ≡ x.place → ((c : ℕ) (z : Node) → new c ≡ Some z → with_node at n y c ≡ Some z) → HasChild new n → HasChild at n
child_before at new n x y stood place kept (c, name, (z, here, named)) = elim (with_some at n y c z (kept c z here)) [
  | inl (e, same) ↦ (c, name, (x, ap at (sym e) ∙ stood, sym place ∙ (ap (λ (w : Node). w.place) same ∙ named)))
  | inr (ne, was) ↦ (c, name, (z, was, named))
]

-- each node except the root has a reason, and one of them has only its count
module _ (old mid : World) (number n amount : ℕ) (x : Node) (kept : ℕ → Bool) (keeps : AreKept old.flights old.files kept) (reasons : HaveReasons old.at kept) (only : IsKeptByCount old number x) (all : x.count ≤ n) (forgets : Forgets old number n amount mid) where
  took : amount ≡ x.count
  took = let least : amount ≡ min n x.count = forgets.smaller x only.here in omega (arith, least, all)

  counted : 0 < amount
  counted = elim (cases_eq x.count 0) [
    | inl none ↦ absurd (no_reason old.at old.flights old.files kept keeps number x none only.unmarked only.unpinned only.closed only.childless (reasons number x only.here only.not_root))
    | inr some ↦ omega (arith, took)
  ]

  takes : Takes old number amount x mid
  takes = forgets.something x only.here counted

  gone : IsAlive mid.at number → ⊥
  gone (y, here) =
      let less : Node = record x { count = x.count - amount } in
      let same : less ≡ y = same_Some less y (sym (with_same old.at number less) ∙ takes.sweeps.swept.kept number y here) in
      let none : less.count ≡ 0 = omega (arith, took) in
      let count : y.count ≡ 0 = ap (λ (w : Node). w.count) (sym same) ∙ none in
      let hidden : y.hidden ≡ false = ap (λ (w : Node). w.hidden) (sym same) ∙ only.unmarked in
      let flights : mid.flights ≡ old.flights = ap (λ (w : World). w.flights) takes.new_is in
      let files : mid.files ≡ old.files = ap (λ (w : World). w.files) takes.new_is in
      no_reason mid.at mid.flights mid.files takes.sweeps.kept takes.sweeps.keeps number y count hidden
      (λ pin. only.unpinned (subst (λ (fs : RequestsInFlight). IsPinned fs number) flights pin))
      (λ file. only.closed (subst (λ (fs : Files). IsOpen fs number) files file))
      (λ child. only.childless (child_before old.at mid.at number x less only.here refl takes.sweeps.swept.kept child))
      (takes.sweeps.reasons number y here only.not_root)

-- a period that ends first does not change the nodes
module _ (old mid : World) (number n amount : ℕ) (x : Node) (lawful : IsLawfulWorld old) (only : IsKeptByCount old number x) (all : x.count ≤ n) (forgets : ForgetsAnew old number n amount mid) where
  gone_anew : IsAlive mid.at number → ⊥
  gone_anew =
      let w : World = record old { postings = forgets.renewed.postings } in
      let still : IsKeptByCount w number x = record { here = only.here; not_root = only.not_root; unmarked = only.unmarked; unpinned = only.unpinned; closed = only.closed; childless = only.childless } in
      gone w mid number n amount x lawful.kept lawful.keeps lawful.law.reasons still all
      (subst (λ (v : World). Forgets v number n amount mid) (renewed_is old forgets.renewed forgets.room) forgets.forgets)

pub forgotten_gone : AreForgottenGone
forgotten_gone old new hand hand' number n amount unique want x lawful only all names runs =
    let puts = runs.4.2 in
    let is = puts.begins.footprint_is in
    let given : Contains puts.begins.footprint.given number = subst (λ (d : Footprint). Contains d.given number) (sym is.footprint) (names is.case) in
    let lost = λ (leads : Leads runs.0.at number). gone_anew old runs.0 number n amount x lawful only all runs.2.0 (stands runs.0.at number leads.names only.not_root leads.climb) in
    puts.begins.begins.0.sound.not_stale (record { number = number; named = given; lost = lost })
