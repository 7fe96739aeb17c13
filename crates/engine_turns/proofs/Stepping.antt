-- What a call of the shared table means for a table handle.
use Rattle.std.proofs.Common.{◌≡◌, ◌++◌, List, ap, ◌∙◌}
use Rattle.shared_history.specs.declared.views.View.{View}
use Rattle.table_shared.specs.declared.entries.LogEntry.{LogEntry}
use Rattle.table_shared.specs.Histories.{calls_of, unless_busy}
use Rattle.table_shared.specs.Runs.{Call, Makes}
use Rattle.table_shared.proofs.Histories.{calls_more}
use Rattle.table_steps.specs.World.{World}
use Rattle.engine_turns.specs.TableCalls.{on_table_of, then_made}

module _ {L : Type 0} where
  pub made : (start : World) (call : Call) (old new : View (LogEntry L)) → Makes start call old new → on_table_of new ≡ then_made (on_table_of old) call
  made start call old new m =
      let calls : calls_of new.mine ≡ calls_of old.mine ++ unless_busy call = ap calls_of m.mine ∙ (calls_more old.mine m.entry ∙ ap (λ (c : Call). calls_of old.mine ++ unless_busy c) m.call_is) in
      λ i. record { by = m.index i; calls = calls i }
