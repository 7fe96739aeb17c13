-- The parts of a session that has not begun.
use Rattle.std.proofs.Common.{◌≡◌, ◌∙◌, ℕ, Bool, false, List, [], Option, Some, None, sym, ap, ap₂}
use Rattle.std.specs.Prelude.{drop, take}
use Rattle.std.specs.Option.{option_map}
use Rattle.crossbeam_channel.specs.Claims.{view}
use Rattle.ledger.specs.Shares.{Part}
use Rattle.terms.specs.declared.settings.Settings.{Settings}
use Rattle.engine_turns.specs.declared.job.Job.{Job}
use Rattle.engine_turns.specs.Queues.{JobQueue, ReplyQueue}
use Rattle.engine_turns.specs.Reads.{beginning}
use Rattle.engine_turns.specs.Shown.{queued_of, reading, shown}
use Rattle.engine_turns.specs.TableCalls.{OnTable}
use Rattle.engine_turns.specs.Verdicts.{Progress, Queued, Reading}
use Rattle.engine_turns.specs.declared.reader.Reader.{Reader}
use Rattle.engine_turns.specs.declared.reader.TheConstants.{GAP}
use Rattle.engine_turns.specs.declared.working.Worker.{Worker}
use Rattle.engine_threads.specs.Beginning.{IsReadyAt, IsReadyHere, IsUnread}

-- a worker at these queues, where the session began with these
pub ready_here : (jobs : JobQueue) (replies : ReplyQueue) (settings : Settings) (of_jobs : Option JobQueue) (of_replies : Option ReplyQueue) (of_settings : Option Settings) (worker : Worker) (share : Part) (on_table : OnTable) → of_jobs ≡ Some jobs → of_replies ≡ Some replies → of_settings ≡ Some settings
    → IsReadyAt jobs replies settings worker share on_table → IsReadyHere of_jobs of_replies of_settings worker share on_table
ready_here jobs replies settings of_jobs of_replies of_settings worker share on_table j r s at = record {
  takes_from = j ∙ ap (λ (q : JobQueue). Some q) (sym at.takes_from);
  puts_into = r ∙ ap (λ (q : ReplyQueue). Some q) (sym at.puts_into);
  settings_are = s ∙ ap (λ (t : Settings). Some t) (sym at.settings_are);
  ready = at.ready;
}

made : List ℕ → List ℕ → Bool → List Queued → Option Queued → Option Queued → Progress
made kept unkept agreed put last_job handed_back = record { kept = kept; unkept = unkept; agreed = agreed; put = put; last_job = last_job; handed_back = handed_back }

made_same : (kept unkept : List ℕ) (agreed : Bool) (put : List Queued) (last_job handed_back : Option Queued) → kept ≡ [] → unkept ≡ [] → agreed ≡ false → put ≡ [] → last_job ≡ None → handed_back ≡ None → made kept unkept agreed put last_job handed_back ≡ made [] [] false [] None None
made_same kept unkept agreed put last_job handed_back k u a p l h =
    ap₂ (λ (x y : List ℕ). made x y agreed put last_job handed_back) k u
    ∙ (ap₂ (λ (x : Bool) (y : List Queued). made [] [] x y last_job handed_back) a p ∙ ap₂ (λ (x y : Option Queued). made [] [] false [] x y) l h)

-- a reader that has received nothing
pub unread : {L : Type 0} (link : L) (reader : Reader) → IsUnread reader → reading link reader ≡ beginning link
unfolding made
unread {L} link reader is =
    ap (λ (p : Progress). let r : Reading L = record { link = link; so_far = p } in r)
    (made_same reader.cutter.kept (take reader.unkept (drop GAP reader.room.items)) reader.agreed (queued_of (view reader.pass).put) (option_map shown reader.last_job) (option_map shown reader.handed_back)
    is.kept (ap (λ (k : ℕ). take k (drop GAP reader.room.items)) is.unkept) is.agreed (ap (λ (js : List Job). queued_of js) is.puts_none) (ap (λ (j : Option Job). option_map shown j) is.no_last_job) (ap (λ (j : Option Job). option_map shown j) is.none_back))
