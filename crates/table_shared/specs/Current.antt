-- From a request's begin to its finish the paths that it was given lead to the nodes that it holds.
use Rattle.std.specs.Prelude.{ℕ, ◌≡◌, ◌==◌, Bool, false, if◌then◌else◌, List, [], ◌∷◌, All}
use Rattle.table_requests.specs.declared.data.Want.{Want}
use Rattle.table_steps.specs.declared.data.Begin.TheVariants as begin
use Rattle.table_steps.specs.Answers.{Claim}
use Rattle.table_steps.specs.Steps.{IsTicket}
use Rattle.table_steps.specs.World.{RequestInFlight, IsAtWork, Work, World}
use Rattle.table_shared.specs.Histories.{Made}
use Rattle.table_shared.specs.Runs.{Call, began, finished, forgot, looked, settled}

-- a request for that want is in progress with the claim's id, and the claim has what its footprint says as the nodes
-- stand: each of its paths is that of a node that the request names, or of a name under one
pub record IsCurrent (w : World) (want : Want) (claim : Claim) : Type 0 where
  pub flight : RequestInFlight
  pub work : Work
  pub here : IsAtWork w.flights claim.id flight work
  pub want_is : work.want ≡ want
  pub ticket : IsTicket w.at work.footprint claim

-- and what is recorded of it, with the nodes that it names and the paths that it holds, is what it began with
pub record IsAsBegun (begun now : World) (want : Want) (claim : Claim) : Type 0 where
  pub same : now.flights claim.id ≡ begun.flights claim.id
  pub current : IsCurrent now want claim

-- the call ends the work on the request with that id
abbrev pub is_finish : ℕ → Call → Bool
is_finish id (began unique want told) = false
is_finish id (finished other outcome told) = other == id
is_finish id (settled answer taken told) = false
is_finish id (forgot number n told) = false
is_finish id (looked fh told) = false

-- the calls before the first such one, or all of them if there is none
abbrev pub before_finish : ℕ → List Made → List Made
before_finish id [] = []
before_finish id (made ∷ history) = if is_finish id made.call then [] else made ∷ before_finish id history

-- Of a begin that was granted: so it is in the world after it, and in the one after each later call until the work on the
-- request is ended. The call that ends it starts from the last of these worlds.
abbrev pub KeepsPaths : Call → Made → List Made → Type 0
KeepsPaths (began unique want (begin.Go claim)) made later = All (λ (now : Made). IsAsBegun made.after now.after want claim) (made ∷ before_finish claim.id later)
KeepsPaths (began unique want begin.Busy) made later = Unit {0}
KeepsPaths (began unique want (begin.Refused errno)) made later = Unit {0}
KeepsPaths (finished id outcome told) made later = Unit {0}
KeepsPaths (settled answer taken told) made later = Unit {0}
KeepsPaths (forgot number n told) made later = Unit {0}
KeepsPaths (looked fh told) made later = Unit {0}

-- each begin of the history, with the calls after it
abbrev pub StaysCurrent : List Made → Type 0
StaysCurrent [] = Unit {0}
StaysCurrent (made ∷ later) = KeepsPaths made.call made later × StaysCurrent later
