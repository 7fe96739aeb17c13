-- Requests whose work has ended, and requests in progress.
use Rattle.std.proofs.Common.{◌≡◌, Bool, true, false, refl, sym, ap, ◌∙◌}
use Rattle.std.proofs.lemmas.Bool.{true≢false}
use Rattle.table_requests.specs.declared.data.Stage.{Stage as Recording}
use Rattle.table_requests.specs.declared.data.Stage.TheVariants as recorded
use Rattle.table_requests.specs.RequestMaps.{is_working}
use Rattle.table_steps.specs.Kept.{stage_of}
use Rattle.table_steps.specs.World.{Answered, RequestInFlight, Stage, Work, Working}

-- whether the work has ended
abbrev pub has_ended : Stage → Bool
has_ended (Working work) = false
has_ended (Answered before opened) = true

pub ended_seen : (s : Recording) → is_working s ≡ false → has_ended (stage_of s) ≡ true
ended_seen (recorded.Working work) idle = absurd (true≢false idle)
ended_seen (recorded.Answered before opened) idle = refl

pub ended_recorded : (s : Recording) → has_ended (stage_of s) ≡ true → is_working s ≡ false
ended_recorded (recorded.Working work) ended = absurd (true≢false (sym ended))
ended_recorded (recorded.Answered before opened) ended = refl

-- the work on a request in progress has not ended
pub not_ended : (f : RequestInFlight) (work : Work) → f.stage ≡ Working work → has_ended f.stage ≡ true → ⊥
not_ended f work working ended = true≢false (sym ended ∙ ap has_ended working)
