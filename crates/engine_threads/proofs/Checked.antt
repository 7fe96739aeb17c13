-- What was checked off against the history, by the names that the account has for it.
use Rattle.std.proofs.Common.{◌≡◌, ◌∙◌, ℕ, Bool, List, Option, length, map, ap, subst, subst₂}
use Rattle.std.proofs.Math.Logic.{∥∥₁_map}
use Rattle.std.specs.List.{flat_map}
use Rattle.terms.specs.declared.settings.Settings.{Settings}
use Rattle.engine.specs.Links.{Heard}
use Rattle.engine.specs.Serving.{Behaviour}
use Rattle.engine.specs.declared.ends.SessionEnd.{SessionEnd}
use Rattle.engine.specs.declared.links.Sent.{Sent}
use Rattle.engine_queues.specs.Gathered.{puts_of, takings_of}
use Rattle.engine_queues.specs.Jobs.{AreTaken, numbers}
use Rattle.engine_queues.specs.Replies.{AreGot}
use Rattle.engine_turns.specs.declared.job.Job.{Job}
use Rattle.engine_queues.specs.declared.jobs.Hand.{Hand}
use Rattle.engine_queues.specs.declared.passes.Passes.{Passes}
use Rattle.engine_queues.specs.declared.replies.ReplyLane.{ReplyLane}
use Rattle.engine_turns.specs.Reads.{HasReadAll}
use Rattle.engine_turns.specs.Shown.{queued_of, shown}
use Rattle.engine_turns.specs.TableCalls.{OnTable}
use Rattle.engine_turns.specs.Writes.{HasWritten, writing}
use Rattle.engine_turns.specs.declared.replies.JobReply.{JobReply}
use Rattle.std.specs.Option.{option_map}
use Rattle.table_shared.specs.Runs.{Call}
use Rattle.engine_threads.specs.Ended.{IsShared}
use Rattle.engine_threads.specs.Worked.{WorkedEach, made_by}
use Rattle.engine_threads.proofs.Each.{log_same}

-- what the writer did on the table is what the history has of its index, which comes after those of the workers
pub writer_did : {L : Type 0} (sends : L → List ℕ → Sent → L → Type 0) (from from' : Option L) (senders count : ℕ) (on_table : OnTable) (d d' : ℕ → List Call) (lane lane' : ReplyLane JobReply) (link : L) (broken broken' : Bool)
    → from ≡ from' → senders ≡ count → d on_table.by ≡ on_table.calls → d ≡ d' → lane ≡ lane' → broken ≡ broken'
    → ∥ HasWritten sends from senders on_table (writing lane link broken) ∥₁ → ∥ HasWritten sends from' count (made_by d' count) (writing lane' link broken') ∥₁
writer_did {L} sends from from' senders count on_table d d' lane lane' link broken broken' f n made s l b h = ∥∥₁_map h (λ (k : HasWritten sends from senders on_table (writing lane link broken)).
    let by : on_table.by ≡ senders = ap (λ (o : OnTable). o.by) k.calls_are in
    let table = log_same on_table d senders by made ∙ ap (λ (x : ℕ → List Call). made_by x senders) s in
    let here = subst₂ (λ (x : Option L) (o : OnTable). HasWritten sends x senders o (writing lane link broken)) f table k in
    let there = subst (λ (m : ℕ). HasWritten sends from' m (made_by d' m) (writing lane link broken)) n here in
    subst₂ (λ (x : ReplyLane JobReply) (y : Bool). HasWritten sends from' count (made_by d' count) (writing x link y)) l b there)

pub reader_did : {L : Type 0} (receives : L → Heard → L → Type 0) (from from' : Option L) (end end' : Option SessionEnd) (read read' : Hand Job) (last last' : Option Job) (link : L) → from ≡ from' → end ≡ end' → read ≡ read' → last ≡ last'
    → ∥ HasReadAll receives from end (queued_of read.put) (option_map shown last) link ∥₁ → ∥ HasReadAll receives from' end' (queued_of read'.put) (option_map shown last') link ∥₁
reader_did {L} receives from from' end end' read read' last last' link f e r l h =
    subst₂ (λ (x : Hand Job) (y : Option Job). ∥ HasReadAll receives from' end' (queued_of x.put) (option_map shown y) link ∥₁) r l
    (subst₂ (λ (x : Option L) (y : Option SessionEnd). ∥ HasReadAll receives x y (queued_of read.put) (option_map shown last) link ∥₁) f e h)

pub each_did : {C D : Type 0} (does : Behaviour C D) (settings settings' : Option Settings) (d d' : ℕ → List Call) (last last' : Option Job) (given given' : List C) (passes passes' : List (Passes Job JobReply)) (lefts : List C)
    → settings ≡ settings' → d ≡ d' → last ≡ last' → given ≡ given' → passes ≡ passes' → WorkedEach does settings d last given passes lefts → WorkedEach does settings' d' last' given' passes' lefts
each_did {C} {D} does settings settings' d d' last last' given given' passes passes' lefts s m l g p h =
    subst (λ (x : List (Passes Job JobReply)). WorkedEach does settings' d' last' given' x lefts) p
    (subst₂ (λ (x : Option Job) (y : List C). WorkedEach does settings' d' x y passes lefts) l g
    (subst₂ (λ (x : Option Settings) (y : ℕ → List Call). WorkedEach does x y last given passes lefts) s m h))

pub shared_so : (read read' : Hand Job) (passes passes' : List (Passes Job JobReply)) (written written' : ReplyLane JobReply) → read ≡ read' → passes ≡ passes' → written ≡ written' → map (λ (j : Job). j.ordinal) read.put ≡ numbers 0 (length read.put)
    → AreTaken read.put (flat_map (λ js. js) (takings_of passes)) → AreGot (puts_of passes) written.got → IsShared read' passes' written'
shared_so read read' passes passes' written written' r p w numbered jobs replies =
    let whole : IsShared read passes written = record { numbered = numbered; jobs = jobs; replies = replies } in
    subst (λ (l : ReplyLane JobReply). IsShared read' passes' l) w (subst₂ (λ (v : Hand Job) (ps : List (Passes Job JobReply)). IsShared v ps written) r p whole)
