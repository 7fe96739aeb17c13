-- A log as a history.
use Rattle.std.proofs.Common.{ℕ, ◌≡◌, ◌==◌, Bool, true, false, List, [], ◌∷◌, ◌++◌, refl, ap, sym, ◌∙◌, append_assoc}
use Rattle.std.proofs.lemmas.List.{append-nil}
use Rattle.shared_history.specs.Views.{own, own_if}
use Rattle.table_steps.specs.World.{IsLawfulWorld, World}
use Rattle.table_shared.specs.Histories.{IsHistory, Made, calls_by, calls_if, calls_of, history_of, last_world, unless_busy}
use Rattle.table_shared.specs.Runs.{Call, IsRun, Log, after, call_in, call_of, end_of}
use Rattle.table_shared.specs.declared.entries.LogEntry.{LogEntry}

-- the world from which it starts is lawful
pub history_start : (start : World) (history : List Made) → IsHistory start history → IsLawfulWorld start
history_start start [] run = run
history_start start (made ∷ history) run = run.0

module _ {L : Type 0} where
  pub history_run : (start : World) (log : Log L) → IsRun start log → IsHistory start (history_of log)
  history_run start [] run = run
  history_run start (x ∷ log) (first, made, rest) = (first, made, history_run (after x) log rest)

  pub last_is : (start : World) (log : Log L) → last_world start (history_of log) ≡ end_of start log
  last_is start [] = refl
  last_is start (x ∷ log) = last_is (after x) log

  calls_own : (b : Bool) (e : LogEntry L) (es : List (LogEntry L)) → calls_of (own_if b e es) ≡ calls_if b (call_of e.event) ++ calls_of es
  calls_own true e es = refl
  calls_own false e es = refl

  -- the calls of the entries of one index
  pub calls_are : (index : ℕ) (log : Log L) → calls_by index (history_of log) ≡ calls_of (own index log)
  calls_are index [] = refl
  calls_are index (x ∷ log) = ap (λ (cs : List Call). calls_if (x.0 == index) (call_in x) ++ cs) (calls_are index log) ∙ sym (calls_own (x.0 == index) x.1 (own index log))

  -- one more entry
  pub calls_more : (es : List (LogEntry L)) (e : LogEntry L) → calls_of (es ++ e ∷ []) ≡ calls_of es ++ unless_busy (call_of e.event)
  calls_more [] e = append-nil (unless_busy (call_of e.event))
  calls_more (x ∷ es) e = ap (λ (cs : List Call). unless_busy (call_of x.event) ++ cs) (calls_more es e) ∙ sym (append_assoc (unless_busy (call_of x.event)) (calls_of es) (unless_busy (call_of e.event)))
