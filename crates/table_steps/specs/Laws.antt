-- What is proved about the steps for all wants.
use Rattle.std.specs.Prelude.{ℕ, ◌≡◌, Bool, List, Option, None, Contains, ◌++◌, false, drop}
use Rattle.table_files.specs.Handles.{Files}
use Rattle.table_requests.specs.declared.data.Case.{Case}
use Rattle.table_requests.specs.declared.data.Given.{Given}
use Rattle.table_requests.specs.declared.data.Want.{Want}
use Rattle.holds.specs.declared.held.Held.{Held}
use Rattle.ledger.specs.declared.postings.Posting.{Posting}
use Rattle.ledger.specs.Periods.{Periods, continued}
use Rattle.ledger.specs.Sums.{births_of, count_of, totals_over}
use Rattle.paths.specs.Prefixes.{Names}
use Rattle.tree.specs.declared.nodes.Key.{Key}
use Rattle.tree.specs.Places.{Lookup, IsTree}
use Rattle.table_footprints.specs.Asked.{ArePaths, Holds}
use Rattle.table_footprints.specs.Cases.{IsFootprint}
use Rattle.table_footprints.specs.Laws.{AreOwn}
use Rattle.table_footprints.specs.Footprints.{Change, Footprint, Location, AtNode, footprint_of}
use Rattle.table_steps.specs.declared.data.Begin.{Begin}
use Rattle.table_steps.specs.declared.data.Outcome.{Outcome}
use Rattle.table_steps.specs.Answers.{Answer, Claim, Settlement}
use Rattle.table_steps.specs.Steps.{Alters, Begins, ClosesPeriod, Ends, EntersAll, Finishes, Forgets, GoesOn, HoldsUp, IsAnswered, MayBegin, Settles, act_of, numbers_of}
use Rattle.table_steps.specs.Swept.{IsSwept}
use Rattle.table_steps.specs.World.{AreKept, RequestInFlight, RequestsInFlight, IsAtWork, IsLawfulWorld, IsReady, IsTally, Tally, Work, Working, World, seen_in, with_entry}

-- ---- what was given to other requests does not change

-- none of the locations is the root
abbrev pub IsPlaced : List Location → Type 0
IsPlaced exclusive = Contains exclusive (AtNode 1) → ⊥

-- whatever the outcome, a request changes no names except those that its footprint holds exclusively
abbrev pub AreActsOwn : Type 0
AreActsOwn = (want : Want) (case : Case) (outcome : Outcome) → AreOwn (footprint_of want case).exclusive (act_of (footprint_of want case) outcome).change

-- every request in progress still has what it relies on, and the paths of its ticket are unchanged
pub record LeavesWork (old new : Lookup) (flights : RequestsInFlight) : Type 0 where
  pub ready : (id : ℕ) (f : RequestInFlight) (work : Work) → IsAtWork flights id f work → IsReady old f work → IsReady new f work
  pub paths : (id : ℕ) (f : RequestInFlight) (work : Work) → IsAtWork flights id f work → IsReady old f work → (paths : List Names) → ArePaths old work.footprint.paths paths → ArePaths new work.footprint.paths paths

-- a request that was begun has what it relies on
abbrev pub AreBegunReady : Type 0
AreBegunReady = (old new : World) (unique : ℕ) (want : Want) (d : Footprint) (ticket : Claim) → IsFootprint (seen_in old) want d → MayBegin old d → (goes : GoesOn old unique want d ticket new)
    → IsReady old.at (record { unique = unique; stage = Working (record { want = want; footprint = d; held = goes.held }); pins = goes.pins }) (record { want = want; footprint = d; held = goes.held })

-- a change of names without conflicts does not affect the others
abbrev pub AreOthersLeft : Type 0
AreOthersLeft = (old new : Lookup) (flights : RequestsInFlight) (d : Footprint) (held : Held) (change : Change) → IsTree new → Holds old d held
    → (HoldsUp flights held → ⊥) → IsPlaced d.exclusive → AreOwn d.exclusive change → Alters old change new → LeavesWork old new flights

-- nor do entries and births, nor does a sweep
abbrev pub AreEntriesHarmless : Type 0
AreEntriesHarmless = (flights owners : RequestsInFlight) (old new : Lookup) (ps qs : Periods) (keys : List Key) (found : List Bool) (given : List (Option Given)) → IsTree new
    → EntersAll owners old ps keys found given new qs → LeavesWork old new flights

abbrev pub AreSweepsHarmless : Type 0
AreSweepsHarmless = (flights : RequestsInFlight) (files : Files) (old new : Lookup) (kept : ℕ → Bool) → IsTree new
    → AreKept flights files kept → IsSwept kept old new → LeavesWork old new flights

-- nor does the end of a request's work, whatever its want and its outcome
abbrev pub AreEndsHarmless : Type 0
AreEndsHarmless = (old new : World) (id : ℕ) (f : RequestInFlight) (work : Work) (outcome : Outcome) (answer : Answer) → IsReady old.at f work
    → (HoldsUp (with_entry old.flights id None) work.held → ⊥)
    → (e : Ends old id f (act_of work.footprint outcome) work.footprint.entries answer new) → IsTree e.entered → IsTree new.at
    → LeavesWork old.at new.at (with_entry old.flights id None)

-- ---- what was given and opened

-- what a request's record says it gave and opened is what the end of its work returned
pub record IsRecorded (answer : Answer) (new : World) : Type 0 where
  pub answered : IsAnswered new.flights answer.id
  pub given : drop answered.before answered.flight.pins ≡ numbers_of answer.given
  pub opened : answered.opened ≡ answer.opened

-- so what a settle takes back is what its client was sent
abbrev pub AreAnswersRecorded : Type 0
AreAnswersRecorded = (old new : World) (id : ℕ) (outcome : Outcome) (answer : Answer) → Finishes old id outcome answer new → answer.lost ≡ false → IsRecorded answer new

-- ---- worlds and steps

-- the numbers to which the limits apply are determined by the rest of the world
abbrev pub AreTalliesFixed : Type 0
AreTalliesFixed = (w : World) (s t : Tally) → IsTally w s → IsTally w t → s ≡ t

-- the ledger has the same periods, and possibly more postings in the last one
pub record Grows (old new : World) : Type 0 where
  pub more : List Posting
  pub grown : new.postings ≡ continued old.postings more

-- no request removes a posting
pub record AreLedgersGrown : Type 0 where
  pub begin : (old : World) (unique : ℕ) (want : Want) (answer : Begin) (new : World) → Begins old unique want answer new → Grows old new
  pub finish : (old : World) (id : ℕ) (outcome : Outcome) (answer : Answer) (new : World) → Finishes old id outcome answer new → Grows old new
  pub settle : (old : World) (answer : Answer) (taken : Bool) (settled : Settlement) (new : World) → Settles old answer taken settled new → Grows old new
  pub forget : (old : World) (number n amount : ℕ) (new : World) → Forgets old number n amount new → Grows old new

-- the end of a period, which alone does, changes neither the counts, nor the births of each number, nor the totals of
-- what was posted
pub record AreSumsKept : Type 0 where
  pub counts : (old new : World) (fewer : ℕ) → IsLawfulWorld old → IsLawfulWorld new → ClosesPeriod old fewer new → (n g : ℕ) → count_of n g new.postings ≡ count_of n g old.postings
  pub births : (old new : World) (fewer : ℕ) → ClosesPeriod old fewer new → (n : ℕ) → births_of n new.postings ≡ births_of n old.postings
  pub totals : (old new : World) (fewer : ℕ) → ClosesPeriod old fewer new → totals_over new.postings ≡ totals_over old.postings
