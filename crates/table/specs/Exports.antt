-- The image of a table.
use Rattle.std.specs.Prelude.{ℕ, ◌≡◌, ◌==◌, ◌≢◌, [], Option, Some, None, List, MatchOption, AllPairs, find}
use Rattle.table_files.specs.OpenEntry.{file_in}
use Rattle.holds.specs.declared.held.Held.{Held}
use Rattle.tree.specs.Listed.{node_at, IsDistinct}
use Rattle.table_image.specs.declared.data.Image.{Image}
use Rattle.table_image.specs.declared.data.Record.{Record}
use Rattle.table_image.specs.declared.data.ImageStage.{ImageStage as Shown}
use Rattle.table_image.specs.declared.data.ImageStage.TheVariants as shown
use Rattle.table_image.specs.ImageLaw.{AreHoldsCounted, periods_in}
use Rattle.table_steps.specs.World.{Answered, RequestInFlight, Stage, Working, World}

abbrev pub stage_shown : Stage → Shown
stage_shown (Working work) = shown.Working
stage_shown (Answered before opened) = shown.Answered

-- what the request holds: nothing after its work has ended
abbrev pub held_by : Stage → Held
held_by (Working work) = work.held
held_by (Answered before opened) = record { given = []; shared = []; exclusive = [] }

-- the record shows the request with that id
pub record IsRecordOf (id : ℕ) (f : RequestInFlight) (r : Record) : Type 0 where
  pub id_is : r.id ≡ id
  pub unique : r.unique ≡ f.unique
  pub stage : r.stage ≡ stage_shown f.stage
  pub pins : r.pins ≡ f.pins
  pub held : r.held ≡ held_by f.stage

-- the record with that id
abbrev pub record_in : List Record → ℕ → Option Record
record_in rs id = find (λ (r : Record). r.id == id) rs

-- the nodes by their numbers, each once; the whole ledger; the requests by their ids, each once; each path that they
-- hold, once, with how many share it and how many hold it exclusively; the open files by their handles, each once; the
-- counter of the next hidden name, and the last handle that was used
pub record Exports (w : World) (image : Image) : Type 0 where
  pub distinct : IsDistinct image.nodes
  pub nodes : node_at image.nodes ≡ w.at
  pub ledger : periods_in image ≡ w.postings
  pub ids : AllPairs (λ r s. r.id ≢ s.id) image.records
  pub records : (id : ℕ) → MatchOption (w.flights id) (record_in image.records id ≡ None) (λ f. (r : Record) × (record_in image.records id ≡ Some r) × IsRecordOf id f r)
  pub holds : AreHoldsCounted image.holds image.records
  pub handles : AllPairs (λ f g. f.handle ≢ g.handle) image.files
  pub files : file_in image.files ≡ w.files
  pub counter : image.counter ≡ w.counter
  pub last_handle : image.last_handle ≡ w.last_handle
