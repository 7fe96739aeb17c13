-- A request as it is stored, and its copy.
use Rattle.std.specs.Prelude.{ℕ, ◌≡◌, [], List, count_by}
use Rattle.paths.specs.Prefixes.{Names}
use Rattle.holds.specs.declared.held.Held.{Held}
use Rattle.table_requests.specs.declared.data.RequestInFlight.{RequestInFlight}
use Rattle.table_requests.specs.declared.data.Stage as kept
use Rattle.table_requests.specs.declared.data.Stage.TheVariants as kept_stage
use Rattle.table_requests.specs.RequestMaps.{has_exclusive, has_shared}
use Rattle.table_image.specs.declared.data.Record.{Record}
use Rattle.table_image.specs.declared.data.ImageStage.{ImageStage}
use Rattle.table_image.specs.declared.data.ImageStage.TheVariants.{Working, Answered}

abbrev pub stage_of : kept.Stage → ImageStage
stage_of (kept_stage.Working work) = Working
stage_of (kept_stage.Answered before opened) = Answered

-- what the request holds: nothing after its work has ended
abbrev pub held_of : kept.Stage → Held
held_of (kept_stage.Working work) = work.held
held_of (kept_stage.Answered before opened) = record { given = []; shared = []; exclusive = [] }

-- how many requests in progress share the path
abbrev pub sharers_in : List RequestInFlight → Names → ℕ
sharers_in fs path = count_by (λ (f : RequestInFlight). has_shared f.stage path) fs

-- how many requests in progress hold it exclusively
abbrev pub exclusive_in_all : List RequestInFlight → Names → ℕ
exclusive_in_all fs path = count_by (λ (f : RequestInFlight). has_exclusive f.stage path) fs

-- the record is a copy of the request
pub record IsCopyOf (f : RequestInFlight) (r : Record) : Type 0 where
  pub id : r.id ≡ f.id
  pub unique : r.unique ≡ f.unique
  pub stage : r.stage ≡ stage_of f.stage
  pub pins : r.pins ≡ f.pins.numbers
  pub held : r.held ≡ held_of f.stage
