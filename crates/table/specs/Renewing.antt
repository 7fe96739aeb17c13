-- Ending a period that is due, or that has no room for a call.
use Rattle.std.specs.Prelude.{ℕ, ◌≡◌, ◌⊎◌, Bool}
use Rattle.table.specs.Made.{IsDueBy, IsMade}
use Rattle.table.specs.declared.periods.Made.{Made}
use Rattle.table_requests.specs.declared.data.Want.{Want}
use Rattle.table_steps.specs.Answers.{Answer, Settlement}
use Rattle.table_steps.specs.Steps.{Begins, ClosesPeriod, Finishes, Forgets, MakesRoom, Settles}
use Rattle.table_steps.specs.World.{World, most_posted}
use Rattle.table_steps.specs.declared.data.Begin.{Begin}
use Rattle.table_steps.specs.declared.data.Outcome.{Outcome}

-- the last period of the ledger is due to end
pub record IsDue (w : World) : Type 0 where
  pub made : Made
  pub is_made : IsMade w made
  pub due : IsDueBy made

-- a period that is due is ended
abbrev pub Renews : World → World → Type 0
Renews old new = ((IsDue old → ⊥) × (new ≡ old)) ⊎ (IsDue old × ((fewer : ℕ) × ClosesPeriod old fewer new))

-- a period that is due is ended, and then a request begins
pub record BeginsAnew (old : World) (unique : ℕ) (want : Want) (told : Begin) (new : World) : Type 0 where
  pub renewed : World
  pub renews : Renews old renewed
  pub begins : Begins renewed unique want told new

-- a period that has no room for the call is ended, and then the work on a request ends
pub record FinishesAnew (old : World) (id : ℕ) (outcome : Outcome) (answer : Answer) (new : World) : Type 0 where
  pub renewed : World
  pub room : MakesRoom old (most_posted old.flights id) renewed
  pub finishes : Finishes renewed id outcome answer new

-- or a request ends, after its reply was taken or was not
pub record SettlesAnew (old : World) (answer : Answer) (taken : Bool) (settled : Settlement) (new : World) : Type 0 where
  pub renewed : World
  pub room : MakesRoom old (most_posted old.flights answer.id) renewed
  pub settles : Settles renewed answer taken settled new

-- or lookups of a node are forgotten
pub record ForgetsAnew (old : World) (number n amount : ℕ) (new : World) : Type 0 where
  pub renewed : World
  pub room : MakesRoom old 1 renewed
  pub forgets : Forgets renewed number n amount new
