use Rattle.std.proofs.Common.{◌≡◌, List, drop, take, vec_len}
use Rattle.handles.specs.Calls.{FolderCall}
use Rattle.table_shared.specs.Runs.{Call}
use Rattle.engine_turns.specs.TableCalls.{on_table_of}
use Rattle.engine_turns.specs.Batches.{SettlesAll, endings}
use Rattle.engine_turns.specs.Turns.{ByBoth}
use Rattle.engine_turns.proofs.batches.Batch.settle.Given as goal

-- the answers before this one are settled
abbrev pub invariant-loop-at : goal.invariant-loop-at
invariant-loop-at g l = record {
  settled : ByBoth g.D.Folders.keeps l.initial.dirs (on_table_of l.initial.thread_log) l.dirs (on_table_of l.thread_log) (λ (folders : List FolderCall) (calls : List Call). SettlesAll (take l.at l.initial.self.left.items) l.initial.self.sent.items (endings l.self.settled.items folders calls));
  left : drop l.at l.self.left.items ≡ drop l.at l.initial.self.left.items;
  len : vec_len l.self.left ≡ vec_len l.initial.self.left;
  sent : l.self.sent.items ≡ l.initial.self.sent.items;
  count : vec_len l.self.settled ≡ l.at;
  entries : l.share.totals.entries ≡ l.initial.share.totals.entries;
  index : l.share.index ≡ l.initial.share.index;
}
