-- A begin posts nothing.
use Rattle.std.proofs.Common.{ℕ, ◌≡◌, ap}
use Rattle.table_requests.specs.declared.data.Want.{Want}
use Rattle.table_steps.specs.Steps.{Begins}
use Rattle.table_steps.specs.World.{World}
use Rattle.table_steps.specs.declared.data.Begin.{Begin}
use Rattle.table_steps.specs.declared.data.Begin.TheVariants.{Busy, Go, Refused}

pub begun_posts_nothing : (old new : World) (unique : ℕ) (want : Want) (told : Begin) → Begins old unique want told new → new.postings ≡ old.postings
begun_posts_nothing old new unique want (Go ticket) b = ap (λ (w : World). w.postings) b.begins.1.new_is
begun_posts_nothing old new unique want Busy b = ap (λ (w : World). w.postings) b.begins.2
begun_posts_nothing old new unique want (Refused errno) b = ap (λ (w : World). w.postings) b.begins.1
