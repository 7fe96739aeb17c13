-- One more receive of a reader.
use Rattle.std.proofs.Common.{◌≡◌, List, Option, Some, None}
use Rattle.std.proofs.Math.Logic.{∥∥₁_map}
use Rattle.engine.specs.Links.{Heard}
use Rattle.engine.specs.declared.ends.SessionEnd.{SessionEnd}
use Rattle.engine_turns.specs.Verdicts.{Progress, Queued, Reading, Reads, ReadsOn, goes, stays}
use Rattle.engine_turns.specs.Reads.{beginning, HasRead, HasReadAll, ReadsSo}

module _ {L : Type 0} (receives : L → Heard → L → Type 0) (from : Option L) where
  pub has_begun : (link : L) (now : Reading L) → from ≡ Some link → now ≡ beginning link → ∥ HasRead receives from None now ∥₁
  has_begun link now began fresh = ∣ record { link = link; began = began; reads = stays now fresh } ∣₁

  reads_next : (old now next : Reading L) (end : Option SessionEnd) → ReadsOn receives old now → Reads receives now end next → ReadsSo receives old end next
  reads_next old now next None on r = goes now next on r
  reads_next old now next (Some end) on r = record { last = now; on = on; ends = r }

  pub has_read_on : (now next : Reading L) (end : Option SessionEnd) → ∥ HasRead receives from None now ∥₁ → Reads receives now end next → ∥ HasRead receives from end next ∥₁
  has_read_on now next end h r = ∥∥₁_map h (λ (k : HasRead receives from None now). record { link = k.link; began = k.began; reads = reads_next (beginning k.link) now next end k.reads r })

  pub has_ended : (link : L) (now : Progress) (end : Option SessionEnd) (put : List Queued) (last_job : Option Queued) → put ≡ now.put → last_job ≡ now.last_job → now.handed_back ≡ None
      → ∥ HasRead receives from end (record { link = link; so_far = now }) ∥₁ → ∥ HasReadAll receives from end put last_job link ∥₁
  has_ended link now end put last_job p f b h = ∥∥₁_map h (λ (k : HasRead receives from end (record { link = link; so_far = now })). record { last = now; put_is = p; last_job_is = f; none_back = b; read = k })
