-- What the threads of a session are given may be sent to them.
use denote.RattleType.{RattleType}
use denote.Param.Send.{IsSend, IsSync, sendable}
use Rattle.std.proofs.Crossing as heap
use Rattle.engine.specs.declared.links.LinkIn as ins
use Rattle.engine.specs.declared.links.LinkOut as out
use Rattle.engine_turns.proofs.Crossing.{thread_log_send, worker_send, writer_role_send}
use Rattle.engine_turns.proofs.reader_role.ReaderRole.TheSendSync as reader
use Rattle.engine_turns.proofs.shares.ThreadShare.TheSendSync as kept
use Rattle.engine_turns.specs.contracts.shares.ThreadShare as ThreadShare
use Rattle.engine_turns.specs.contracts.reader_role.ReaderRole as ReaderRole
use Rattle.engine_turns.specs.contracts.writer_role.WriterRole as WriterRole
use Rattle.engine_turns.specs.declared.origins.Sink as sink
use Rattle.engine_turns.specs.declared.origins.Source as source
use Rattle.engine_turns.proofs.sleepers.Sleepers.TheSendSync as sleepers
use Rattle.engine_turns.specs.contracts.sleepers.Sleepers as Sleepers
use Rattle.engine_threads.proofs.session_state.Signs.TheSendSync as signs
use Rattle.engine_threads.specs.contracts.session_state.Signs as Signs
use Rattle.handles.proofs.dirs.Dirs.TheSendSync as dirs
use Rattle.handles.specs.contracts.dirs.Dirs as Dirs
use Rattle.table_shared.proofs.shared_table.SharedTable.TheSendSync as shared_table
use Rattle.table_shared.specs.contracts.shared_table.SharedTable as SharedTable
use Rattle.table_shared.specs.declared.entries.Opening as opening
use Rattle.engine_threads.specs.contracts.session_state.Common as Common
use Rattle.engine_threads.specs.contracts.worker_role.WorkerRole as WorkerRole
use Rattle.engine_threads.specs.declared.origins.Workers as workers
use Rattle.backing.specs.declared.calls.Calls as calls
use Rattle.ledger.specs.declared.ledgers.Ledgers.{Ghosts}

module _ (T N C S : RattleType) (n : opening.Ghosts N.Denot) (c : calls.Ghosts C.Denot) (w : workers.Ghosts S.Denot C.Denot) (g : Ghosts T.Denot) where
  pub role_send : IsSend T → IsSync T → IsSend N → IsSend C → IsSend S → IsSend (WorkerRole.the_row T N C S n c w g)
  role_send s y m d e = let a : IsSend (ThreadShare.the_field T g).row = search (kept.the_field_send T g, sendable) in let b = worker_send in let f = thread_log_send T g N n m in search sendable depth 20

-- what all threads share: each part of it may be used by several threads at once
module _ (H T N I O S : RattleType) (n : opening.Ghosts N.Denot) (i : ins.Ghosts I.Denot) (o : out.Ghosts O.Denot) (j : source.Ghosts S.Denot I.Denot) (k : sink.Ghosts S.Denot O.Denot) (g : Ghosts T.Denot) where
  pub common_sync : IsSync H → IsSend T → IsSync T → IsSend N → IsSend I → IsSend O → IsSend S → IsSync (Common.the_row H T N I O S n i o j k g)
  common_sync h s y m d e f =
      let a : IsSync (SharedTable.the_field T N g n).row = search (shared_table.the_field_sync T N g n, sendable) in
      let b : IsSync Dirs.the_row = dirs.the_sync in
      let c : IsSend (ReaderRole.the_row I S i j) = search (reader.the_send I S i j, sendable) in
      let w : IsSend (WriterRole.the_row T N O S n o k g) = writer_role_send T g N O S n o k s y m e f in
      let p : IsSync (Sleepers.the_field).row = sleepers.the_field_sync in
      let q : IsSync (Signs.the_field).row = signs.the_field_sync in
      search (heap.crosses, sendable) depth 20
