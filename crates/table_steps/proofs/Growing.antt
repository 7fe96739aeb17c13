-- Each step only adds to the ledger.
use Rattle.std.proofs.Common.{ℕ, zero, suc, ◌≡◌, ◌⊎◌, Bool, true, false, List, [], ◌∷◌, ◌++◌, drop, append_assoc, append-nil, Option, Some, None, refl, sym, ap, ◌∙◌, subst, inl, inr, arith}
use Rattle.std.proofs.lemmas.Option.{none-some, same_Some}
use Rattle.table_requests.specs.declared.data.Given.{Given}
use Rattle.ledger.specs.declared.postings.Posting.{Posting}
use Rattle.ledger.specs.declared.postings.Posting.TheVariants as posting
use Rattle.ledger.specs.Periods.{Periods, continued}
use Rattle.tree.specs.declared.nodes.Key.{Key}
use Rattle.tree.specs.declared.nodes.Node.{Node}
use Rattle.tree.specs.Places.{Lookup}
use Rattle.tree.proofs.LookupLemmas.{cases_option}
use Rattle.table_steps.specs.Entries.{Enters, TakesAllBack, TakesBack, TakesNone, untaken_of}
use Rattle.table_requests.specs.declared.data.Want.{Want}
use Rattle.table_steps.specs.declared.data.Begin.{Begin}
use Rattle.table_steps.specs.declared.data.Begin.TheVariants.{Busy, Go, Refused}
use Rattle.table_steps.specs.declared.data.Outcome.{Outcome}
use Rattle.table_steps.specs.Answers.{Answer, Settlement}
use Rattle.table_steps.specs.Laws.{AreLedgersGrown, Grows}
use Rattle.table_footprints.specs.Footprints.{Footprint}
use Rattle.table_steps.specs.Steps.{BeginsAs, EntersAll, Finishes, Forgets, Settles}
use Rattle.table_steps.specs.World.{Answered, RequestInFlight, RequestsInFlight, Stage, Working, World}

-- the periods are the same, with more postings
IsMore : Periods → Periods → Type 0
IsMore ps qs = (more : List Posting) × (qs ≡ continued ps more)

with_last : Periods → List Posting → Periods
with_last ps l = record ps { last = l }

same_more : (ps : Periods) → IsMore ps ps
unfolding IsMore with_last
same_more ps = ([], ap (with_last ps) (sym (append-nil ps.last)))

then_more : (ps qs rs : Periods) → IsMore ps qs → IsMore qs rs → IsMore ps rs
unfolding IsMore with_last
then_more ps qs rs (a, e) (b, g) = (a ++ b, g ∙ (ap (λ (xs : Periods). continued xs b) e ∙ ap (with_last ps) (append_assoc ps.last a b)))

more_is : (ps qs : Periods) (more : List Posting) → qs ≡ continued ps more → IsMore ps qs
unfolding IsMore
more_is ps qs more e = (more, e)

one_entered : (at : Lookup) (ps : Periods) (key : Key) (g : Given) (at' : Lookup) (qs : Periods) → Enters at ps key.parent key.name g at' qs → IsMore ps qs
one_entered at ps key g at' qs (inl again) = more_is ps qs (posting.Entry g.number g.generation ∷ []) again.postings
one_entered at ps key g at' qs (inr born) = more_is ps qs (posting.Born g.number g.generation ∷ posting.Entry g.number g.generation ∷ []) (born.postings ∙ ap (λ (l : List Posting). record ps { last = l }) (append_assoc ps.last (posting.Born g.number g.generation ∷ []) (posting.Entry g.number g.generation ∷ [])))

entered_more : (owners : RequestsInFlight) (at at' : Lookup) (ps qs : Periods) (keys : List Key) (found : List Bool) (given : List (Option Given)) → EntersAll owners at ps keys found given at' qs → IsMore ps qs
entered_more owners at at' ps qs (key ∷ keys) (true ∷ found) (Some g ∷ given) (free, (mid, rs, enters, more)) =
    then_more ps rs qs (one_entered at ps key g mid rs enters) (entered_more owners mid at' rs qs keys found given more)
entered_more owners at at' ps qs (key ∷ keys) (true ∷ found) (None ∷ given) (owned, more) = entered_more owners at at' ps qs keys found given more
entered_more owners at at' ps qs (key ∷ keys) (false ∷ found) (None ∷ given) more = entered_more owners at at' ps qs keys found given more
entered_more owners at at' ps qs [] [] [] same = subst (λ rs. IsMore ps rs) (sym same.1) (same_more ps)
entered_more owners at at' ps qs keys found given bad = absurd bad

one_back : (at : Lookup) (ps : Periods) (n : ℕ) (at' : Lookup) (qs : Periods) → TakesBack at ps n at' qs ⊎ TakesNone at ps n at' qs → IsMore ps qs
one_back at ps n at' qs (inl back) = more_is ps qs (posting.Back n back.node.generation ∷ []) back.postings
one_back at ps n at' qs (inr none) = subst (λ rs. IsMore ps rs) (sym none.postings) (same_more ps)

back_more : (at at' : Lookup) (ps qs : Periods) (given : List ℕ) → TakesAllBack at ps given at' qs → IsMore ps qs
back_more at at' ps qs [] same = subst (λ rs. IsMore ps rs) (sym same.1) (same_more ps)
back_more at at' ps qs (n ∷ given) (mid, rs, one, more) = then_more ps rs qs (one_back at ps n mid rs one) (back_more mid at' rs qs given more)

grows : (old new : World) → IsMore old.postings new.postings → Grows old new
unfolding IsMore
grows old new it = record { more = it.0; grown = it.1 }

grows_same : (old new : World) → new.postings ≡ old.postings → Grows old new
grows_same old new e = grows old new (subst (λ qs. IsMore old.postings qs) (sym e) (same_more old.postings))

grows_none : (old new : World) → new ≡ old → Grows old new
grows_none old new e = grows_same old new (ap (λ (w : World). w.postings) e)

begin_grows : (old : World) (unique : ℕ) (want : Want) (d : Footprint) (answer : Begin) (new : World) → BeginsAs old unique want d answer new → Grows old new
begin_grows old unique want d (Go ticket) new (may, goes) = grows_same old new (ap (λ (w : World). w.postings) goes.new_is)
begin_grows old unique want d Busy new (sound, up, same) = grows_none old new same
begin_grows old unique want d (Refused e) new (why, same) = grows_none old new same

taken_grows : (old new : World) (number n amount : ℕ) (x : Node) → old.at number ≡ Some x → Forgets old number n amount new → Grows old new
taken_grows old new number n zero x here f = grows_none old new (f.nothing refl)
taken_grows old new number n (suc k) x here f =
    let takes = f.something x here (omega arith) in
    grows old new (more_is old.postings new.postings (posting.Forget number x.generation (suc k) ∷ []) (ap (λ (w : World). w.postings) takes.new_is))

forget_grows : (old new : World) (number n amount : ℕ) → Forgets old number n amount new → Grows old new
forget_grows old new number n amount f = elim (cases_option (old.at number)) [
  | inl none ↦ grows_none old new (f.nothing (f.unknown none))
  | inr (x, here) ↦ taken_grows old new number n amount x here f
]

cases_flight : (o : Option RequestInFlight) → (o ≡ None) ⊎ ((f : RequestInFlight) × (o ≡ Some f))
cases_flight None = inl refl
cases_flight (Some f) = inr (f, refl)

module _ (old new : World) (id : ℕ) where
  finish_stage : (outcome : Outcome) (answer : Answer) → Finishes old id outcome answer new → (f : RequestInFlight) → old.flights id ≡ Some f → (stage : Stage) → f.stage ≡ stage → Grows old new
  finish_stage outcome answer fin f here (Working work) is =
      let e = fin.found f work (record { here = here; working = is }) in
      grows old new (entered_more _ old.at e.entered old.postings new.postings work.footprint.entries _ answer.given e.enters)
  finish_stage outcome answer fin f here (Answered before opened) is = grows_none old new (fin.lost (λ g work at.
      let same : g ≡ f = same_Some g f (sym at.here ∙ here) in
      let bad : Working work ≡ Answered before opened = sym at.working ∙ (ap (λ (x : RequestInFlight). x.stage) same ∙ is) in
      absurd (cc))).1

  finish_grows : (outcome : Outcome) (answer : Answer) → Finishes old id outcome answer new → Grows old new
  finish_grows outcome answer fin = elim (cases_flight (old.flights id)) [
    | inl none ↦ grows_none old new (fin.lost (λ g work at. none-some g (sym none ∙ at.here))).1
    | inr (f, here) ↦ finish_stage outcome answer fin f here f.stage refl
  ]

module _ (old new : World) (answer : Answer) (taken : Bool) (settled : Settlement) (s : Settles old answer taken settled new) where
  settle_stage : (lost : Bool) → answer.lost ≡ lost → (f : RequestInFlight) → old.flights answer.id ≡ Some f → (stage : Stage) → f.stage ≡ stage → Grows old new
  settle_stage true is f here stage at = grows_none old new (s.lost is)
  settle_stage false is f here (Working work) at = grows_none old new (s.unknown (λ a.
      let same : a.flight ≡ f = same_Some a.flight f (sym a.here ∙ here) in
      let bad : Answered a.before a.opened ≡ Working work = sym a.ended ∙ (ap (λ (x : RequestInFlight). x.stage) same ∙ at) in
      absurd (cc)))
  settle_stage false is f here (Answered before opened) at =
      let e = s.found is (record { flight = f; here = here; before = before; opened = opened; ended = at }) in
      grows old new (back_more old.at e.mid old.postings new.postings (untaken_of taken (drop before f.pins)) e.back)

  settle_grows : Grows old new
  settle_grows = elim (cases_flight (old.flights answer.id)) [
    | inl none ↦ grows_none old new (s.unknown (λ a. none-some a.flight (sym none ∙ a.here)))
    | inr (f, here) ↦ settle_stage answer.lost refl f here f.stage refl
  ]

pub ledgers_grown : AreLedgersGrown
ledgers_grown = record {
  begin = λ old unique want answer new b. begin_grows old unique want b.footprint answer new b.begins;
  finish = λ old id outcome answer new f. finish_grows old new id outcome answer f;
  settle = λ old answer taken settled new s. settle_grows old new answer taken settled s;
  forget = λ old number n amount new f. forget_grows old new number n amount f;
}
