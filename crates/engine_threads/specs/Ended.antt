-- The result of a session on threads.
use Rattle.std.specs.Prelude.{◌≡◌, ℕ, Bool, true, false, List, length, map, Option, Some, None}
use Rattle.std.specs.List.{flat_map}
use Rattle.ledger.specs.Shares.{Part, sum_of}
use Rattle.ledger.specs.Sums.{totals_over}
use Rattle.ledger.specs.declared.shares.Totals.{Totals}
use Rattle.table_steps.specs.World.{IsLawfulWorld, World}
use Rattle.engine.specs.declared.ends.SessionEnd.{SessionEnd}
use Rattle.engine.specs.declared.ends.SessionEnd.TheVariants.{LinkBroken}
use Rattle.engine_turns.specs.declared.job.Job.{Job}
use Rattle.engine_queues.specs.Gathered.{puts_of, takings_of}
use Rattle.engine_queues.specs.Jobs.{AreTaken, numbers}
use Rattle.engine_queues.specs.Replies.{AreGot}
use Rattle.engine_queues.specs.declared.jobs.Hand.{Hand}
use Rattle.engine_queues.specs.declared.replies.ReplyLane.{ReplyLane}
use Rattle.engine_queues.specs.declared.passes.Passes.{Passes}
use Rattle.engine_turns.specs.declared.replies.JobReply.{JobReply}

-- the total of a lawful table's ledger, which is the sum of these shares
pub record IsGathered (totals : Totals) : Type 0 where
  pub world : World
  pub lawful : IsLawfulWorld world
  pub ledger : totals ≡ totals_over world.postings
  pub shares : List Part
  pub sums : totals ≡ sum_of shares

-- how many jobs each worker took
abbrev pub AreCounts : {J : Type 0} → List ℕ → List (List J) → Type 0
AreCounts taken takings = taken ≡ map (λ js. length js) takings

-- How a session ended: if the link broke when a reply was offered, that is the end, whatever else happened; otherwise a
-- receive ended it like this. Reading is stopped early only for such a break, so one of the two is the case.
abbrev pub EndsAs : (input : Option SessionEnd) → (is_broken : Bool) → SessionEnd → Type 0
EndsAs input true end = end ≡ LinkBroken
EndsAs (Some over) false end = end ≡ over
EndsAs None false end = ⊥

-- The jobs that were read are numbered from 0, in the order in which they were queued. Each was taken by one of these, and none is left: so the
-- ordinals of those taken are the numbers below how many there are, each once. And the replies of each of these are what the writer got of
-- it, in their order, and none is left.
pub record IsShared (read : Hand Job) (passes : List (Passes Job JobReply)) (written : ReplyLane JobReply) : Type 0 where
  pub numbered : map (λ (j : Job). j.ordinal) read.put ≡ numbers 0 (length read.put)
  pub jobs : AreTaken read.put (flat_map (λ js. js) (takings_of passes))
  pub replies : AreGot (puts_of passes) written.got
