-- Runs: lists of calls with their results, and what a caller has pending meanwhile.
use Rattle.std.specs.Prelude.{ℕ, ◌<◌, ◌≤◌, ◌≡◌, ◌≢◌, Bool, List, [], ◌∷◌, ◌++◌, length, All, AllPairs, slice_index_or}
use Rattle.std.specs.List.{remove}
use Rattle.table_requests.specs.declared.data.Want.{Want}
use Rattle.table_steps.specs.declared.data.Begin.TheVariants as begin
use Rattle.table_steps.specs.declared.data.Outcome.{Outcome}
use Rattle.table_steps.specs.Answers.{Answer, Claim, Settlement}
use Rattle.table.specs.Renewing.{FinishesAnew, ForgetsAnew, SettlesAnew}
use Rattle.table_steps.specs.Steps.{Begins, ClosesPeriod}
use Rattle.table_steps.specs.World.{IsLawfulWorld, World}
use Rattle.table_shared.specs.Current.{IsCurrent}
use Rattle.laws.specs.declared.table_runs.calls.TableCall.{TableCall}
use Rattle.laws.specs.declared.table_runs.calls.TableCall.TheVariants as call
use Rattle.laws.specs.declared.table_runs.calls.CallResult.{CallResult}
use Rattle.laws.specs.declared.table_runs.calls.CallResult.TheVariants as told
use Rattle.laws.specs.declared.table_runs.pending.Started.{Started}
use Rattle.laws.specs.Outstanding.{Outstanding}

-- ---- tickets

-- the two tickets do not both have the id
abbrev pub NotBoth : ℕ → Started → Started → Type 0
NotBoth id s t = s.ticket.id ≡ id → t.ticket.id ≢ id

-- at most one pending ticket has the id, and if one has it, it is current. The others may be of another table
pub record IsCurrentAt (w : World) (hand : Outstanding) (id : ℕ) : Type 0 where
  pub once : AllPairs (NotBoth id) hand.tickets
  pub current : All (λ s. s.ticket.id ≡ id → IsCurrent w s.want s.ticket) hand.tickets

-- ---- one call

-- neither the table nor what is pending has changed
pub record ChangesNothing (old : World) (hand : Outstanding) (new : World) (hand' : Outstanding) : Type 0 where
  pub world : new ≡ old
  pub hand_is : hand' ≡ hand

-- the request goes on, and its ticket becomes the last one pending, with its want
pub record PutsTicket (old : World) (hand : Outstanding) (unique : ℕ) (want : Want) (new : World) (hand' : Outstanding) : Type 0 where
  pub ticket : Claim
  pub begins : Begins old unique want (begin.Go ticket) new
  pub hand_is : hand' ≡ record hand { tickets = hand.tickets ++ record { ticket = ticket; want = want } ∷ [] }

-- the ticket at that index is used up, and the answer becomes the last one pending
pub record SpendsTicket (old : World) (hand : Outstanding) (place : ℕ) (outcome : Outcome) (new : World) (hand' : Outstanding) : Type 0 where
  pub within : place < length hand.tickets
  pub spent : Started
  pub here : slice_index_or hand.tickets place spent ≡ spent
  pub answer : Answer
  pub finishes : FinishesAnew old spent.ticket.id outcome answer new
  pub hand_is : hand' ≡ record { tickets = remove hand.tickets place; answers = hand.answers ++ answer ∷ [] }

-- the answer at that index is used up
pub record SpendsAnswer (old : World) (hand : Outstanding) (place : ℕ) (taken : Bool) (settled : Settlement) (new : World) (hand' : Outstanding) : Type 0 where
  pub within : place < length hand.answers
  pub spent : Answer
  pub here : slice_index_or hand.answers place spent ≡ spent
  pub settles : SettlesAnew old spent taken settled new
  pub hand_is : hand' ≡ record hand { answers = remove hand.answers place }

-- one call with its result
abbrev pub IsStep : World → Outstanding → TableCall → CallResult → World → Outstanding → Type 0
IsStep old hand (call.Begin unique want) told.Begun new hand' = PutsTicket old hand unique want new hand'
IsStep old hand (call.Begin unique want) told.Busy new hand' = Begins old unique want begin.Busy new × (hand' ≡ hand)
IsStep old hand (call.Begin unique want) (told.Refused e) new hand' = Begins old unique want (begin.Refused e) new × (hand' ≡ hand)
IsStep old hand (call.Finish place outcome) told.Finished new hand' = SpendsTicket old hand place outcome new hand'
IsStep old hand (call.Finish place outcome) told.Nothing new hand' = (length hand.tickets ≤ place) × ChangesNothing old hand new hand'
IsStep old hand (call.Settle place taken) (told.Settled settled) new hand' = SpendsAnswer old hand place taken settled new hand'
IsStep old hand (call.Settle place taken) told.Nothing new hand' = (length hand.answers ≤ place) × ChangesNothing old hand new hand'
IsStep old hand (call.Forget number n) (told.Forgot amount) new hand' = ForgetsAnew old number n amount new × (hand' ≡ hand)
IsStep old hand call.ClosePeriod (told.Closed fewer) new hand' = ClosesPeriod old fewer new × (hand' ≡ hand)
IsStep old hand c t new hand' = ⊥

-- ---- all calls of a list, in order, each with its result. The world after each is lawful

abbrev pub Runs : World → Outstanding → List TableCall → List CallResult → World → Outstanding → Type 0
Runs old hand [] [] new hand' = ChangesNothing old hand new hand'
Runs old hand (c ∷ cs) (t ∷ ts) new hand' = (mid : World) × (between : Outstanding) × IsStep old hand c t mid between × IsLawfulWorld mid × Runs mid between cs ts new hand'
Runs old hand cs ts new hand' = ⊥
