-- How many entries a step posts.
use Rattle.std.proofs.Common.{ℕ, ◌≡◌, ◌+◌, Bool, true, false, List, [], ◌∷◌, drop, Option, Some, None, inl, inr, ◌⊎◌, is_some, refl, ap, ◌∙◌, arith}
use Rattle.std.proofs.lemmas.List.Sums.{sum_by-cons}
use Rattle.std.proofs.lemmas.Bool.{cases_eq}
use Rattle.std.specs.Prelude.{cond}
use Rattle.table_requests.specs.declared.data.Given.{Given}
use Rattle.ledger.specs.declared.postings.Posting.{Posting}
use Rattle.ledger.specs.declared.postings.Posting.TheVariants.{Back, Born, Entry, Forget}
use Rattle.ledger.specs.Shares.{Part}
use Rattle.ledger.specs.declared.shares.Totals.{Totals}
use Rattle.ledger.specs.Periods.{Periods, continued, posted}
use Rattle.ledger.specs.Sums.{totals_of, totals_over}
use Rattle.ledger.proofs.SharesLemmas.{totals_over-more}
use Rattle.tree.proofs.LookupLemmas.{cases_option}
use Rattle.tree.specs.declared.nodes.Key.{Key}
use Rattle.tree.specs.Places.{Lookup}
use Rattle.table_steps.specs.Answers.{Answer, Settlement, entries_in}
use Rattle.table_steps.specs.Entries.{Enters, TakesAllBack, untaken_of}
use Rattle.table.specs.Gains.{GainsInAll}
use Rattle.table.specs.Renewing.{FinishesAnew, ForgetsAnew, SettlesAnew}
use Rattle.table.proofs.Closing.{totals_renewed}
use Rattle.table_steps.specs.Steps.{EntersAll, Finishes, MakesRoom, Settles, Forgets, act_of}
use Rattle.table_steps.specs.World.{most_posted, RequestsInFlight, World}
use Rattle.table_steps.specs.declared.data.Outcome.{Outcome}
use Rattle.table_shared.proofs.Staying.{answered_or, at_work}

abbrev pub listed : Periods → ℕ
listed ps = (totals_over ps).entries

listed_more : (ps : Periods) (more : List Posting) → listed (continued ps more) ≡ listed ps + (totals_of more).entries
listed_more ps more = ap (λ (t : Totals). t.entries) (totals_over-more ps more)

listed_some : (g : Given) (gs : List (Option Given)) → entries_in (Some g ∷ gs) ≡ 1 + entries_in gs
listed_some g gs = let e = sum_by-cons (λ (o : Option Given). cond (is_some o) 1 0) (Some g) gs in omega arith

listed_none : (gs : List (Option Given)) → entries_in (None ∷ gs) ≡ entries_in gs
listed_none gs = let e = sum_by-cons (λ (o : Option Given). cond (is_some o) 1 0) None gs in omega arith

enters_one : (at at' : Lookup) (ps ps' : Periods) (parent : ℕ) (name : List ℕ) (g : Given) → Enters at ps parent name g at' ps' → listed ps' ≡ listed ps + 1
enters_one at at' ps ps' parent name g (inl again) = ap listed again.postings ∙ listed_more ps (Entry g.number g.generation ∷ [])
enters_one at at' ps ps' parent name g (inr bears) =
    ap listed bears.postings ∙ (let a = listed_more (posted ps (Born g.number g.generation)) (Entry g.number g.generation ∷ []) in let b = listed_more ps (Born g.number g.generation ∷ []) in omega arith)

enters_all : (flights : RequestsInFlight) (at at' : Lookup) (ps ps' : Periods) (keys : List Key) (found : List Bool) (given : List (Option Given)) → EntersAll flights at ps keys found given at' ps' → listed ps' ≡ listed ps + entries_in given
enters_all flights at at' ps ps' (key ∷ keys) (true ∷ found) (Some g ∷ given) (free, (mid, qs, first, rest)) =
    let a = enters_one at mid ps qs key.parent key.name g first in
    let b = enters_all flights mid at' qs ps' keys found given rest in
    let n = listed_some g given in
    omega arith
enters_all flights at at' ps ps' (key ∷ keys) (true ∷ found) (None ∷ given) (owned, rest) =
    let b = enters_all flights at at' ps ps' keys found given rest in
    let n = listed_none given in
    omega arith
enters_all flights at at' ps ps' (key ∷ keys) (false ∷ found) (None ∷ given) rest =
    let b = enters_all flights at at' ps ps' keys found given rest in
    let n = listed_none given in
    omega arith
enters_all flights at at' ps ps' (key ∷ keys) (false ∷ found) (Some g ∷ given) h = absurd h
enters_all flights at at' ps ps' [] [] [] h = let e : listed ps' ≡ listed ps = ap listed h.1 in omega arith
enters_all flights at at' ps ps' [] [] (g ∷ given) h = absurd h
enters_all flights at at' ps ps' [] (f ∷ found) given h = absurd h
enters_all flights at at' ps ps' (key ∷ keys) [] given h = absurd h
enters_all flights at at' ps ps' (key ∷ keys) (true ∷ found) [] h = absurd h
enters_all flights at at' ps ps' (key ∷ keys) (false ∷ found) [] h = absurd h

finished_lists : (old new : World) (id : ℕ) (outcome : Outcome) (answer : Answer) → Finishes old id outcome answer new → listed new.postings ≡ listed old.postings + entries_in answer.given
finished_lists old new id outcome answer finishes = elim (at_work old.flights id (old.flights id) refl) [
  | inl none ↦ (let lost = finishes.lost none in let p : listed new.postings ≡ listed old.postings = ap (λ (w : World). listed w.postings) lost.1 in let e : entries_in answer.given ≡ 0 = ap (λ (a : Answer). entries_in a.given) lost.0 in omega arith)
  | inr (f, work, here) ↦ (let ends = finishes.found f work here in enters_all _ old.at ends.entered old.postings new.postings work.footprint.entries (act_of work.footprint outcome).found answer.given ends.enters)
]

backs_all : (at at' : Lookup) (ps ps' : Periods) (ns : List ℕ) → TakesAllBack at ps ns at' ps' → listed ps' ≡ listed ps
backs_all at at' ps ps' [] h = ap listed h.1
backs_all at at' ps ps' (n ∷ ns) (mid, qs, inl back, rest) =
    backs_all mid at' qs ps' ns rest ∙ (ap listed back.postings ∙ (let a = listed_more ps (Back n back.node.generation ∷ []) in omega arith))
backs_all at at' ps ps' (n ∷ ns) (mid, qs, inr none, rest) = backs_all mid at' qs ps' ns rest ∙ ap listed none.postings

-- give-backs and forgets add no entry
settled_lists : (old new : World) (answer : Answer) (taken : Bool) (settled : Settlement) → Settles old answer taken settled new → listed new.postings ≡ listed old.postings
settled_lists old new answer taken settled s = elim (cases_eq_bool answer.lost) [
  | inl lost ↦ ap (λ (w : World). listed w.postings) (s.lost lost)
  | inr kept ↦ elim (answered_or old.flights answer.id (old.flights answer.id) refl) [
    | inl unknown ↦ ap (λ (w : World). listed w.postings) (s.unknown unknown)
    | inr known ↦ (let e = s.found kept known in backs_all old.at e.mid old.postings new.postings (untaken_of taken (drop known.before known.flight.pins)) e.back)
  ]
] where
  cases_eq_bool : (b : Bool) → (b ≡ true) ⊎ (b ≡ false)
  cases_eq_bool true = inl refl
  cases_eq_bool false = inr refl

forgot_lists : (old new : World) (number n amount : ℕ) → Forgets old number n amount new → listed new.postings ≡ listed old.postings
forgot_lists old new number n amount h = elim (cases_eq amount 0) [
  | inl none ↦ ap (λ (w : World). listed w.postings) (h.nothing none)
  | inr some ↦ elim (cases_option (old.at number)) [
    | inl gone ↦ absurd (some (h.unknown gone))
    | inr (x, stood) ↦ (let t = h.something x stood (omega arith) in ap (λ (w : World). listed w.postings) t.new_is ∙ (let a = listed_more old.postings (Forget number x.generation amount ∷ []) in omega arith))
  ]
]

-- a period that ends first adds no entry
module _ (old mid : World) (n : ℕ) (room : MakesRoom old n mid) where
  room_lists : listed mid.postings ≡ listed old.postings
  room_lists = ap (λ (t : Totals). t.entries) (totals_renewed old mid room)

pub finished_anew : (old new : World) (id : ℕ) (outcome : Outcome) (answer : Answer) → FinishesAnew old id outcome answer new → listed new.postings ≡ listed old.postings + entries_in answer.given
finished_anew old new id outcome answer f = omega (arith, finished_lists f.renewed new id outcome answer f.finishes, room_lists old f.renewed (most_posted old.flights id) f.room)

pub settled_anew : (old new : World) (answer : Answer) (taken : Bool) (settled : Settlement) → SettlesAnew old answer taken settled new → listed new.postings ≡ listed old.postings
settled_anew old new answer taken settled s = settled_lists s.renewed new answer taken settled s.settles ∙ room_lists old s.renewed (most_posted old.flights answer.id) s.room

pub forgot_anew : (old new : World) (number n amount : ℕ) → ForgetsAnew old number n amount new → listed new.postings ≡ listed old.postings
forgot_anew old new number n amount h = forgot_lists h.renewed new number n amount h.forgets ∙ room_lists old h.renewed 1 h.room

-- the share gains what the ledger does
pub gains_posted : (old new : World) (before after : Part) → GainsInAll old before new after → after.totals.entries + listed old.postings ≡ before.totals.entries + listed new.postings
gains_posted old new before after gains =
    let a : after.totals.entries ≡ before.totals.entries + gains.more.entries = ap (λ (p : Part). p.totals.entries) gains.share in
    let b : listed new.postings ≡ listed old.postings + gains.more.entries = ap (λ (t : Totals). t.entries) gains.ledger in
    omega (arith, a, b)
