-- Extending a run.
use Rattle.std.proofs.Common.{ℕ, ◌≡◌, [], ◌∷◌, ◌++◌, refl, ap, sym, subst, ◌∙◌}
use mathlib.Core.List.{IsPrefix}
use Rattle.shared_history.specs.declared.views.View.{View}
use Rattle.shared_history.specs.Views.{thread_log}
use Rattle.table_steps.specs.World.{IsLawfulWorld, World}
use Rattle.table_shared.specs.Runs.{Call, IsRun, IsStep, Log, Makes, after, call_in, call_of, end_of}
use Rattle.table_shared.specs.declared.entries.LogEntry.{LogEntry}

module _ {L : Type 0} where
  pub end_more : (w : World) (log : Log L) (x : ℕ × LogEntry L) → end_of w (log ++ x ∷ []) ≡ after x
  end_more w [] x = refl
  end_more w (y ∷ log) x = end_more (after y) log x

  pub run_more : (w : World) (log : Log L) (x : ℕ × LogEntry L) → IsRun w log → IsStep (end_of w log) (call_in x) (after x) → IsLawfulWorld (after x) → IsRun w (log ++ x ∷ [])
  run_more w [] x run step lawful = (run, step, lawful)
  run_more w (y ∷ log) x (first, made, rest) step lawful = (first, made, run_more (after y) log x rest step lawful)

  -- by a step to the world that the entry shows
  pub run_on : (w : World) (log : Log L) (by : ℕ) (entry : LogEntry L) (new : World) → new ≡ after (by, entry) → IsRun w log → IsStep (end_of w log) (call_of entry.event) new → IsLawfulWorld new → IsRun w (log ++ (by, entry) ∷ [])
  run_on w log by entry new is run step lawful = run_more w log (by, entry) run (subst (λ (v : World). IsStep (end_of w log) (call_of entry.event) v) is step) (subst IsLawfulWorld is lawful)

  -- the world after any prefix of the log is lawful
  pub end_lawful : (w : World) (log : Log L) → IsRun w log → IsLawfulWorld (end_of w log)
  end_lawful w [] run = run
  end_lawful w (y ∷ log) (first, made, rest) = end_lawful (after y) log rest

  run_start : (w : World) (log : Log L) → IsRun w log → IsLawfulWorld w
  run_start w [] run = run
  run_start w (y ∷ log) (first, made, rest) = first

  -- each call of a run starts from the world in which the calls before it ended
  pub run_at : (w : World) (log : Log L) (x : ℕ × LogEntry L) (rest : Log L) → IsRun w (log ++ x ∷ rest) → IsLawfulWorld (end_of w log) × IsStep (end_of w log) (call_in x) (after x) × IsLawfulWorld (after x)
  run_at w [] x rest (first, made, run) = (first, made, run_start (after x) rest run)
  run_at w (y ∷ log) x rest (first, made, run) = run_at (after y) log x rest run

  pub makes : (w : World) (call : Call) (log : Log L) (old new : View (LogEntry L)) (entry : LogEntry L) → call_of entry.event ≡ call → IsPrefix old.seen log
      → new ≡ thread_log old.by (log ++ (old.by, entry) ∷ []) (old.mine ++ entry ∷ []) → IsRun w (log ++ (old.by, entry) ∷ []) → Makes w call old new
  makes w call log old new entry call_is begins is run = record {
    between = begins.0;
    entry = entry;
    call_is = call_is;
    seen = ap (λ v. v.seen) is ∙ ap (λ (l : Log L). l ++ (old.by, entry) ∷ []) (sym begins.1);
    run = subst (λ (v : View (LogEntry L)). IsRun w v.seen) (sym is) run;
    mine = ap (λ v. v.mine) is;
    index = ap (λ v. v.by) is;
  }
