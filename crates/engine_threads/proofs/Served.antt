-- One history of all threads, put together.
use Rattle.std.proofs.Common.{◌≡◌, ◌+◌, ◌≤◌, ℕ, List, [], All, length, Some}
use Rattle.std.proofs.Math.Logic.{∥∥₁_map}
use Rattle.crossbeam_channel.specs.Claims.{view}
use Rattle.ledger.specs.Sums.{totals_over}
use Rattle.ledger.specs.declared.shares.Totals.{Totals}
use Rattle.terms.specs.declared.limits.Limits.{Limits}
use Rattle.terms.specs.declared.settings.Settings.{Settings}
use Rattle.table_hiding.specs.Hiding.{KeepsHidden}
use Rattle.table_steps.specs.World.{opened_world}
use Rattle.table_shared.specs.Current.{StaysCurrent}
use Rattle.table_shared.specs.Histories.{IsHistory, Made, history_of, last_world}
use Rattle.table_shared.specs.Runs.{Log}
use Rattle.engine_turns.specs.Writes.{writing}
use Rattle.engine_threads.specs.Served.{Behaviours, Endpoints, HasRun, HasServed, LastRemoves, served_with}
use Rattle.engine_threads.specs.Worked.{did, does_shared}
use Rattle.engine_threads.proofs.Histories.{history_keeps}
use Rattle.engine_threads.proofs.Unreserved.{all_unreserved}
use Rattle.engine_threads.specs.declared.ended.Passed.{Passed}

module _ {I O C L : Type 0} (by : Behaviours I O C) (settings : Settings) where
  -- what was served is what a closed table shows
  pub has_served : (limits : Limits) (log : Log L) (passed : Passed) (totals : Totals) (given back : Endpoints I O C) (lefts : List C) → IsHistory (opened_world limits) (history_of log) → StaysCurrent (history_of log) → ((index : ℕ) → length given.calls + 1 ≤ index → did log index ≡ [])
      → totals ≡ totals_over (last_world (opened_world limits) (history_of log)).postings → HasRun by settings (did log) passed given (served_with back.link_in back.link_out lefts) → LastRemoves by.gives (last_world (opened_world limits) (history_of log)) lefts back.calls
      → ∥ ((history : List Made) × HasServed by limits settings passed totals given back history) ∥₁
  has_served limits log passed totals given back lefts run current nobody are ran removes =
      ∥∥₁_map (history_keeps limits (history_of log) run
      (all_unreserved (does_shared by.gives) by.sends (Some settings) (did log) given.calls passed.passes.value.items lefts passed.last_job.value (Some given.link_out) (writing (view passed.written.value) back.link_out passed.is_broken) ran.worked ran.writes nobody))
      (λ (hidden : All (λ (made : Made). KeepsHidden made.after) (history_of log)).
      let served : HasServed by limits settings passed totals given back (history_of log) = record { run = run; current = current; totals_are = are; lefts = lefts; ran = ran; removes = removes; nobody = nobody; hidden = hidden } in
      (history_of log, served))
