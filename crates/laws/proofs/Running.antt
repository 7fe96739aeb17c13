-- What any call does to the pending tickets, and what all calls of a run do together.
use Rattle.std.proofs.Common.{ℕ, ◌+◌, ◌<◌, ◌≡◌, ◌≢◌, suc, List, [], ◌∷◌, ◌++◌, append_assoc, All, AllPairs, length, drop, take, get_or, refl, sym, ap, ◌∙◌, subst, inl, inr, arith}
use Rattle.std.specs.List.{remove}
use Rattle.std.proofs.lemmas.Bool.{cases_lt}
use Rattle.std.proofs.lemmas.Option.{none-some}
use Rattle.std.proofs.lemmas.List.Edits.{length-remove, get_or-remove_above, get_or-remove_below}
use Rattle.std.proofs.lemmas.List.Elements.{All-from_get_or, All-get_or, All-push, All-weaker}
use Rattle.std.proofs.lemmas.List.Quantifiers.{all_pairs_push, all_pairs_remove}
use Rattle.std.proofs.Math.Seq.{drop-append_seam, take-append_seam}
use Rattle.ledger.specs.Shares.{Part}
use Rattle.table_requests.specs.declared.data.Want.{Want}
use Rattle.table_steps.specs.declared.data.Begin.TheVariants.{Go}
use Rattle.table_steps.specs.declared.data.Outcome.{Outcome}
use Rattle.table_steps.specs.World.{IsLawfulWorld, World}
use Rattle.table.specs.Gains.{GainsInAll}
use Rattle.table.proofs.Gaining.{gains_in_all, gains_same, in_all_on}
use Rattle.table_shared.specs.Current.{IsCurrent}
use Rattle.table_shared.proofs.Current.{begun_current, current_kept}
use Rattle.table_shared.proofs.Staying.{StaysAtWork, begins_stays, closes_stays, finishes_anew, forgets_anew, settles_anew}
use Rattle.laws.specs.declared.table_runs.calls.TableCall.{TableCall}
use Rattle.laws.specs.declared.table_runs.calls.TableCall.TheVariants as call
use Rattle.laws.specs.declared.table_runs.calls.CallResult.{CallResult}
use Rattle.laws.specs.declared.table_runs.calls.CallResult.TheVariants as told
use Rattle.laws.specs.declared.table_runs.pending.Started.{Started}
use Rattle.laws.specs.Outstanding.{Outstanding}
use Rattle.laws.specs.Runs.{ChangesNothing, IsCurrentAt, IsStep, NotBoth, PutsTicket, Runs, SpendsTicket}

-- ---- one call

-- the ticket with that id, if there is one, is current
abbrev pub IsIfBorne : World → ℕ → Started → Type 0
IsIfBorne w id s = s.ticket.id ≡ id → IsCurrent w s.want s.ticket

all_kept : (old new : World) (id : ℕ) (ss : List Started) → IsLawfulWorld old → IsLawfulWorld new → StaysAtWork old new id → All (IsIfBorne old id) ss → All (IsIfBorne new id) ss
all_kept old new id ss was is stays current =
    All-weaker (IsIfBorne old id) (IsIfBorne new id) (λ s c e. current_kept old new s.want s.ticket was is (subst (λ k. StaysAtWork old new k) (sym e) stays) (c e)) ss current

pub current_same : (old new : World) (hand hand' : Outstanding) → new ≡ old → hand' ≡ hand → (id : ℕ) → IsCurrentAt old hand id → IsCurrentAt new hand' id
current_same old new hand hand' world hand_is id current =
    subst (λ w. IsCurrentAt w hand' id) (sym world) (subst (λ h. IsCurrentAt old h id) (sym hand_is) current)

current_begin : (old : World) (hand : Outstanding) (unique : ℕ) (want : Want) (new : World) (hand' : Outstanding) → IsLawfulWorld old → IsLawfulWorld new → PutsTicket old hand unique want new hand' → (id : ℕ) → IsCurrentAt old hand id → IsCurrentAt new hand' id
current_begin old hand unique want new hand' was is puts id current =
    let s : Started = record { ticket = puts.ticket; want = want } in
    let goes = puts.begins.begins.1 in
    let stays = begins_stays old unique want (Go puts.ticket) new puts.begins id in
    let one = begun_current old unique want puts.ticket new was.law.tree is puts.begins in
    let once : (k : ℕ) (d : Started) → k < length hand.tickets → NotBoth id (get_or hand.tickets k d) s = λ k d within borne same.
    let c = All-get_or (IsIfBorne old id) hand.tickets k d within current.current borne in
    none-some c.flight (sym goes.fresh ∙ (ap old.flights (same ∙ sym borne) ∙ c.here.here)) in
    subst (λ h. IsCurrentAt new h id) (sym puts.hand_is) (record {
      once = all_pairs_push (NotBoth id) hand.tickets s current.once once;
      current = All-push (IsIfBorne new id) hand.tickets s (all_kept old new id hand.tickets was is stays current.current) (λ borne. one);
    })

-- one that remains when another is used up
abbrev pub IsLeft : World → ℕ → Started → Started → Type 0
IsLeft w id s c = c.ticket.id ≡ id → IsCurrent w c.want c.ticket × (s.ticket.id ≢ id)

-- the others that are pending when one is used up
others : (w : World) (id : ℕ) (ss : List Started) (place : ℕ) (s : Started) → place < length ss → get_or ss place s ≡ s → AllPairs (NotBoth id) ss → All (IsIfBorne w id) ss → All (IsLeft w id s) (remove ss place)
others w id ss place s inside here once current = All-from_get_or (IsLeft w id s) (remove ss place) s (λ i within. elim (cases_lt i place) [
  | inl before ↦
      let stood : get_or (remove ss place) i s ≡ get_or ss i s = get_or-remove_below ss place s i before inside in
      subst (λ (c : Started). IsLeft w id s c) (sym stood)
      (λ borne. (All-get_or (IsIfBorne w id) ss i s (omega arith) current borne, λ same. once i place s before inside borne (ap (λ (x : Started). x.ticket.id) here ∙ same)))
  | inr after ↦
      let stood : get_or (remove ss place) i s ≡ get_or ss (i + 1) s = get_or-remove_above ss place s i after inside in
      let below : i + 1 < length ss = omega (arith, length-remove ss place inside) in
      subst (λ (c : Started). IsLeft w id s c) (sym stood)
      (λ borne. (All-get_or (IsIfBorne w id) ss (i + 1) s below current borne, λ same. once place (i + 1) s (omega arith) below (ap (λ (x : Started). x.ticket.id) here ∙ same) borne))
])

current_finish : (old : World) (hand : Outstanding) (place : ℕ) (o : Outcome) (new : World) (hand' : Outstanding) → IsLawfulWorld old → IsLawfulWorld new → SpendsTicket old hand place o new hand' → (id : ℕ) → IsCurrentAt old hand id → IsCurrentAt new hand' id
current_finish old hand place o new hand' was is spends id current =
    let s = spends.spent in
    let left = others old id hand.tickets place s spends.within spends.here current.once current.current in
    let other = finishes_anew old s.ticket.id o spends.answer new spends.finishes in
    subst (λ h. IsCurrentAt new h id) (sym spends.hand_is) (record {
      once = all_pairs_remove (NotBoth id) hand.tickets place spends.within current.once;
      current = All-weaker (IsLeft old id s) (IsIfBorne new id) (λ c it borne. current_kept old new c.want c.ticket was is (other c.ticket.id (λ same. (it borne).1 (same ∙ borne))) (it borne).0) (remove hand.tickets place) left;
    })

same_tickets : (old new : World) (hand hand' : Outstanding) → IsLawfulWorld old → IsLawfulWorld new → ((k : ℕ) → StaysAtWork old new k) → hand'.tickets ≡ hand.tickets → (id : ℕ) → IsCurrentAt old hand id → IsCurrentAt new hand' id
same_tickets old new hand hand' was is stays same id current = record {
  once = subst (λ ss. AllPairs (NotBoth id) ss) (sym same) current.once;
  current = subst (λ ss. All (IsIfBorne new id) ss) (sym same) (all_kept old new id hand.tickets was is (stays id) current.current);
}

-- after any call the only ticket with an id is still current, if it was, or if the call added it
pub current_step : (old : World) (hand : Outstanding) (c : TableCall) (t : CallResult) (new : World) (hand' : Outstanding) → IsLawfulWorld old → IsLawfulWorld new → IsStep old hand c t new hand' → (id : ℕ) → IsCurrentAt old hand id → IsCurrentAt new hand' id
current_step old hand (call.Begin unique want) told.Begun new hand' was is puts id current = current_begin old hand unique want new hand' was is puts id current
current_step old hand (call.Begin unique want) told.Busy new hand' was is (begins, same) id current = current_same old new hand hand' begins.begins.2 same id current
current_step old hand (call.Begin unique want) (told.Refused e) new hand' was is (begins, same) id current = current_same old new hand hand' begins.begins.1 same id current
current_step old hand (call.Begin unique want) told.Nothing new hand' was is bad id current = absurd bad
current_step old hand (call.Begin unique want) told.Finished new hand' was is bad id current = absurd bad
current_step old hand (call.Begin unique want) (told.Settled settled) new hand' was is bad id current = absurd bad
current_step old hand (call.Begin unique want) (told.Forgot amount) new hand' was is bad id current = absurd bad
current_step old hand (call.Begin unique want) (told.Closed fewer) new hand' was is bad id current = absurd bad
current_step old hand (call.Finish place o) told.Finished new hand' was is spends id current = current_finish old hand place o new hand' was is spends id current
current_step old hand (call.Finish place o) told.Nothing new hand' was is (none, same) id current = current_same old new hand hand' same.world same.hand_is id current
current_step old hand (call.Finish place o) told.Begun new hand' was is bad id current = absurd bad
current_step old hand (call.Finish place o) told.Busy new hand' was is bad id current = absurd bad
current_step old hand (call.Finish place o) (told.Refused e) new hand' was is bad id current = absurd bad
current_step old hand (call.Finish place o) (told.Settled settled) new hand' was is bad id current = absurd bad
current_step old hand (call.Finish place o) (told.Forgot amount) new hand' was is bad id current = absurd bad
current_step old hand (call.Finish place o) (told.Closed fewer) new hand' was is bad id current = absurd bad
current_step old hand (call.Settle place taken) (told.Settled settled) new hand' was is spends id current =
    same_tickets old new hand hand' was is (settles_anew old spends.spent taken settled new spends.settles) (ap (λ (h : Outstanding). h.tickets) spends.hand_is) id current
current_step old hand (call.Settle place taken) told.Nothing new hand' was is (none, same) id current = current_same old new hand hand' same.world same.hand_is id current
current_step old hand (call.Settle place taken) told.Begun new hand' was is bad id current = absurd bad
current_step old hand (call.Settle place taken) told.Busy new hand' was is bad id current = absurd bad
current_step old hand (call.Settle place taken) (told.Refused e) new hand' was is bad id current = absurd bad
current_step old hand (call.Settle place taken) told.Finished new hand' was is bad id current = absurd bad
current_step old hand (call.Settle place taken) (told.Forgot amount) new hand' was is bad id current = absurd bad
current_step old hand (call.Settle place taken) (told.Closed fewer) new hand' was is bad id current = absurd bad
current_step old hand (call.Forget number n) (told.Forgot amount) new hand' was is (forgets, same) id current =
    same_tickets old new hand hand' was is (forgets_anew old number n amount new forgets) (ap (λ (h : Outstanding). h.tickets) same) id current
current_step old hand (call.Forget number n) told.Nothing new hand' was is bad id current = absurd bad
current_step old hand (call.Forget number n) told.Begun new hand' was is bad id current = absurd bad
current_step old hand (call.Forget number n) told.Busy new hand' was is bad id current = absurd bad
current_step old hand (call.Forget number n) (told.Refused e) new hand' was is bad id current = absurd bad
current_step old hand (call.Forget number n) told.Finished new hand' was is bad id current = absurd bad
current_step old hand (call.Forget number n) (told.Settled settled) new hand' was is bad id current = absurd bad
current_step old hand (call.Forget number n) (told.Closed fewer) new hand' was is bad id current = absurd bad
current_step old hand call.ClosePeriod (told.Closed fewer) new hand' was is (closes, same) id current =
    same_tickets old new hand hand' was is (closes_stays old fewer new closes) (ap (λ (h : Outstanding). h.tickets) same) id current
current_step old hand call.ClosePeriod told.Nothing new hand' was is bad id current = absurd bad
current_step old hand call.ClosePeriod told.Begun new hand' was is bad id current = absurd bad
current_step old hand call.ClosePeriod told.Busy new hand' was is bad id current = absurd bad
current_step old hand call.ClosePeriod (told.Refused e) new hand' was is bad id current = absurd bad
current_step old hand call.ClosePeriod told.Finished new hand' was is bad id current = absurd bad
current_step old hand call.ClosePeriod (told.Settled settled) new hand' was is bad id current = absurd bad
current_step old hand call.ClosePeriod (told.Forgot amount) new hand' was is bad id current = absurd bad

-- ---- many calls

pub runs_more : (old : World) (hand : Outstanding) (cs : List TableCall) (ts : List CallResult) (mid : World) (between : Outstanding) (c : TableCall) (t : CallResult) (new : World) (hand' : Outstanding) → Runs old hand cs ts mid between → IsStep mid between c t new hand' → IsLawfulWorld new → Runs old hand (cs ++ c ∷ []) (ts ++ t ∷ []) new hand'
runs_more old hand [] [] mid between c t new hand' same step lawful =
    (new, hand', subst (λ w. IsStep w hand c t new hand') same.world (subst (λ h. IsStep mid h c t new hand') same.hand_is step), lawful, record { world = refl; hand_is = refl })
runs_more old hand [] (s ∷ ts) mid between c t new hand' bad step lawful = absurd bad
runs_more old hand (d ∷ cs) [] mid between c t new hand' bad step lawful = absurd bad
runs_more old hand (d ∷ cs) (s ∷ ts) mid between c t new hand' runs step lawful =
    (runs.0, runs.1, runs.2, runs.3, runs_more runs.0 runs.1 cs ts mid between c t new hand' runs.4 step lawful)

pub runs_same : (old : World) (hand : Outstanding) (cs : List TableCall) (ts : List CallResult) (mid : World) (between : Outstanding) (new : World) (hand' : Outstanding) → Runs old hand cs ts mid between → ChangesNothing mid between new hand' → Runs old hand cs ts new hand'
runs_same old hand cs ts mid between new hand' runs same =
    subst (λ w. Runs old hand cs ts w hand') (sym same.world) (subst (λ h. Runs old hand cs ts mid h) (sym same.hand_is) runs)

-- each call has one result
pub runs_length : (old : World) (hand : Outstanding) (cs : List TableCall) (ts : List CallResult) (new : World) (hand' : Outstanding) → Runs old hand cs ts new hand' → length cs ≡ length ts
runs_length old hand [] [] new hand' runs = refl
runs_length old hand [] (t ∷ ts) new hand' bad = absurd bad
runs_length old hand (c ∷ cs) [] new hand' bad = absurd bad
runs_length old hand (c ∷ cs) (t ∷ ts) new hand' runs = ap (λ n. suc n) (runs_length runs.0 runs.1 cs ts new hand' runs.4)

-- the calls that were made are a prefix of the list
pub runs_first : (old : World) (hand : Outstanding) (cs : List TableCall) (ts : List CallResult) (new : World) (hand' : Outstanding) (calls rest : List TableCall) → calls ≡ cs ++ rest → Runs old hand cs ts new hand' → Runs old hand (take (length ts) calls) ts new hand'
runs_first old hand cs ts new hand' calls rest is runs =
    let first : take (length ts) calls ≡ cs = ap (λ n. take n calls) (sym (runs_length old hand cs ts new hand' runs)) ∙ (ap (take (length cs)) is ∙ take-append_seam cs rest) in
    subst (λ xs. Runs old hand xs ts new hand') (sym first) runs

-- a further result comes last
pub told_more : (o u v : List CallResult) (t : CallResult) → u ≡ o ++ drop (length o) u → v ≡ u ++ t ∷ [] → drop (length o) v ≡ drop (length o) u ++ t ∷ []
told_more o u v t was is =
    let whole : v ≡ o ++ (drop (length o) u ++ t ∷ []) = is ∙ (ap (λ xs. xs ++ t ∷ []) was ∙ append_assoc o (drop (length o) u) (t ∷ [])) in
    ap (drop (length o)) whole ∙ drop-append_seam o (drop (length o) u ++ t ∷ [])

pub told_whole : (o u v : List CallResult) (t : CallResult) → u ≡ o ++ drop (length o) u → v ≡ u ++ t ∷ [] → v ≡ o ++ drop (length o) v
told_whole o u v t was is =
    is ∙ (ap (λ xs. xs ++ t ∷ []) was ∙ (append_assoc o (drop (length o) u) (t ∷ []) ∙ ap (λ xs. o ++ xs) (sym (told_more o u v t was is))))

-- ---- a run

-- the state after the first calls of a run, with their results
pub record HasRun (old : World) (hand : Outstanding) (before : Part) (made : List TableCall) (ts : List CallResult) (new : World) (hand' : Outstanding) (after : Part) : Type 0 where
  pub runs : Runs old hand made ts new hand'
  pub current : (id : ℕ) → IsCurrentAt old hand id → IsCurrentAt new hand' id
  pub gains : GainsInAll old before new after

-- no call was made yet
pub no_run : (w : World) (hand : Outstanding) (share : Part) (ts : List CallResult) → IsLawfulWorld w → ts ≡ [] → HasRun w hand share [] ts w hand share
no_run w hand share ts lawful none = record {
  runs = subst (λ us. Runs w hand [] us w hand) (sym none) (record { world = refl; hand_is = refl });
  current = λ id start. start;
  gains = gains_in_all w w share share (gains_same w w share share lawful refl refl);
}

pub run_more : (old : World) (hand : Outstanding) (before : Part) (made : List TableCall) (ts : List CallResult) (mid : World) (between : Outstanding) (among : Part) (c : TableCall) (t : CallResult) (new : World) (hand' : Outstanding) (after : Part)
    → HasRun old hand before made ts mid between among → IsStep mid between c t new hand' → ((id : ℕ) → IsCurrentAt mid between id → IsCurrentAt new hand' id) → GainsInAll mid among new after
    → HasRun old hand before (made ++ c ∷ []) (ts ++ t ∷ []) new hand' after
run_more old hand before made ts mid between among c t new hand' after run step current gains = record {
  runs = runs_more old hand made ts mid between c t new hand' run.runs step gains.lawful;
  current = λ id start. current id (run.current id start);
  gains = in_all_on old mid new before among after run.gains gains;
}

-- a call for which memory was refused
pub run_refused : (old : World) (hand : Outstanding) (before : Part) (made : List TableCall) (ts : List CallResult) (mid : World) (between : Outstanding) (among : Part) (new : World) (hand' : Outstanding) (after : Part)
    → HasRun old hand before made ts mid between among → ChangesNothing mid between new hand' → GainsInAll mid among new after
    → HasRun old hand before made ts new hand' after
run_refused old hand before made ts mid between among new hand' after run same gains = record {
  runs = runs_same old hand made ts mid between new hand' run.runs same;
  current = λ id start. current_same mid new between hand' same.world same.hand_is id (run.current id start);
  gains = in_all_on old mid new before among after run.gains gains;
}
