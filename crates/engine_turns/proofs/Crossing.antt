-- What the roles of a session consist of may be sent between threads. Since a `JobReply` contains a snapshot, Rattle
-- does not generate this lemma for it, nor for what contains a sender or a receiver of replies.
use denote.RattleType.{RattleType}
use denote.Param.Send.{IsSend, IsSync, sendable}
use Rattle.std.proofs.Crossing as heap
use Rattle.std.proofs.option.Option.TheSendSync as option
use Rattle.std.specs.contracts.alloc.Global as Global
use Rattle.std.specs.contracts.impls.GlobalAllocator.TheImpl.{ghosts}
use Rattle.std.specs.contracts.option.Option as Option
use Rattle.atomic_table.proofs.badge.Badge.TheSendSync as badge
use Rattle.atomic_table.proofs.shared.Seat.TheSendSync as seat
use Rattle.atomic_table.specs.contracts.badge.Badge as Badge
use Rattle.atomic_table.specs.contracts.shared.Seat as Seat
use Rattle.crossbeam_channel.proofs.flavors.array.Rows.TheSendSync as rows
use Rattle.crossbeam_channel.proofs.flavors.array.ruled.Receiving.TheSendSync as receiving
use Rattle.crossbeam_channel.proofs.flavors.array.ruled.Sending.TheSendSync as sending
use Rattle.crossbeam_channel.specs.contracts.flavors.array.Doing as Doing
use Rattle.crossbeam_channel.specs.contracts.flavors.array.Key as Key
use Rattle.crossbeam_channel.specs.contracts.flavors.array.Lockers as Lockers
use Rattle.crossbeam_channel.specs.contracts.flavors.array.LockersTableRuleOptionKeyUnit.TheImpl as lockers
use Rattle.crossbeam_channel.specs.contracts.flavors.array.Rounds as Rounds
use Rattle.crossbeam_channel.specs.contracts.flavors.array.RoundsTableRuleBadgeKeyDoingBadgeKey.TheImpl as rounds
use Rattle.crossbeam_channel.specs.contracts.flavors.array.Rows as Rows
use Rattle.crossbeam_channel.specs.contracts.flavors.array.Whole as Whole
use Rattle.crossbeam_channel.specs.contracts.flavors.array.WholeSight.TheImpl as whole
use Rattle.crossbeam_channel.specs.contracts.flavors.array.ruled.Receiving as Receiving
use Rattle.crossbeam_channel.specs.contracts.flavors.array.ruled.Sending as Sending
use Rattle.crossbeam_channel.specs.declared.protocol.Protocol as protocol
use Rattle.engine.proofs.requests.Session.TheSendSync as session
use Rattle.engine_turns.proofs.job.Job.TheSendSync as job
use Rattle.engine_queues.proofs.left.Left.TheSendSync as left
use Rattle.engine_turns.specs.contracts.job.Job as Job
use Rattle.engine_queues.specs.contracts.left.Left as Left
use Rattle.engine_queues.proofs.replies.QueuedReply.TheSendSync as queued_reply
use Rattle.engine_queues.specs.contracts.jobs.Fair as Fair
use Rattle.engine_queues.specs.contracts.jobs.FairProtocolHand.TheImpl as fair
use Rattle.engine_queues.specs.contracts.jobs.Hand as Hand
use Rattle.engine_queues.specs.contracts.replies.InOrder as InOrder
use Rattle.engine_queues.specs.contracts.replies.InOrderProtocolQueuedReplyReplyLane.TheImpl as in_order
use Rattle.engine_queues.specs.contracts.replies.QueuedReply as QueuedReply
use Rattle.engine_queues.specs.contracts.replies.ReplyLane as ReplyLane
use Rattle.engine.proofs.bytes.ReplyBytes.TheSendSync as bytes
use Rattle.engine_turns.proofs.batches.Batch.TheSendSync as batch
use Rattle.engine_turns.proofs.spare_buffers.SpareBuffers.TheSendSync as spares
use Rattle.engine_turns.specs.contracts.replies.JobReply as JobReply
use Rattle.engine_turns.specs.contracts.working.Worker as Worker
use Rattle.engine_turns.specs.contracts.writing.Writer as Writer
use Rattle.engine_turns.proofs.shares.ThreadShare.TheSendSync as kept
use Rattle.engine_turns.specs.contracts.shares.ThreadShare as ThreadShare
use Rattle.engine_turns.specs.contracts.writer_role.WriterRole as WriterRole
use Rattle.engine_turns.specs.declared.origins.Sink as sink
use Rattle.engine.specs.declared.links.LinkOut as out
use Rattle.shared_history.proofs.history.ThreadLog.TheSendSync as thread_log
use Rattle.shared_history.specs.contracts.history.ThreadLog as ThreadLog
use Rattle.table_shared.specs.contracts.entries.LogEntry as LogEntry
use Rattle.table_shared.specs.contracts.entries.Runs as Runs
use Rattle.table_shared.specs.contracts.entries.RunsNamingLogEntry.TheImpl as naming
use Rattle.table_shared.specs.declared.entries.Opening as opening
use Rattle.ledger.specs.declared.ledgers.Ledgers.{Ghosts}

-- a queue of messages X, whose passes have views V, under the rule P
module _ (X V P : RattleType) (p : protocol.Ghosts P.Denot X.Denot V.Denot) where
  abbrev queue : RattleType
  queue =
      Rows.the_row (Badge.the_row (Key.the_row X)) (Doing.the_row X V) (Rounds.the_row P) (Option.the_row X) (Key.the_row X) (Lockers.the_row Whole.the_row) Global.the_row
      (rounds.ghosts X V P p rounds.no_dict)
      (lockers.ghosts X X Whole.the_row (whole.ghosts X) lockers.no_dict)
      ghosts

  module _ (s : IsSend X) where
    queue_send : IsSend queue
    queue_send = rows.the_send (Badge.the_row (Key.the_row X)) (Doing.the_row X V) (Rounds.the_row P) (Option.the_row X) (Key.the_row X) (Lockers.the_row Whole.the_row) Global.the_row
        (rounds.ghosts X V P p rounds.no_dict)
        (lockers.ghosts X X Whole.the_row (whole.ghosts X) lockers.no_dict)
        ghosts
        (badge.the_send (Key.the_row X))
        (option.the_send X s)
        heap.send
        heap.frees

    queue_sync : IsSync queue
    queue_sync = rows.the_sync (Badge.the_row (Key.the_row X)) (Doing.the_row X V) (Rounds.the_row P) (Option.the_row X) (Key.the_row X) (Lockers.the_row Whole.the_row) Global.the_row
        (rounds.ghosts X V P p rounds.no_dict)
        (lockers.ghosts X X Whole.the_row (whole.ghosts X) lockers.no_dict)
        ghosts
        (badge.the_send (Key.the_row X))
        (option.the_send X s)
        heap.send
        heap.sync
        heap.frees

    sender_send : IsSend (Sending.the_field queue Global.the_row ghosts).row
    sender_send = sending.the_field_send queue Global.the_row ghosts queue_send heap.send queue_sync heap.sync heap.frees

    receiver_send : IsSend (Receiving.the_field queue Global.the_row ghosts).row
    receiver_send = receiving.the_field_send queue Global.the_row ghosts queue_send heap.send queue_sync heap.sync heap.frees

  pass_send : IsSend (Seat.the_field (Badge.the_row (Key.the_row X)) (Doing.the_row X V)).row
  pass_send = seat.the_send (Badge.the_row (Key.the_row X)) (Doing.the_row X V) (badge.the_send (Key.the_row X))

reply_send : IsSend JobReply.the_row
reply_send =
    let b = bytes.the_field_send in
    let l = option.the_field_send Left.the_row left.the_send in
    search (heap.crosses, sendable) depth 20

abbrev mail : RattleType
mail = QueuedReply.the_row JobReply.the_row

mail_send : IsSend mail
mail_send = queued_reply.the_send JobReply.the_row reply_send

pub worker_send : IsSend (Worker.the_field).row
worker_send =
    let a = session.the_field_send in
    let f = spares.the_field_send in
    let b = receiver_send Job.the_row (Hand.the_row Job.the_row) Fair.the_row (fair.ghosts Job.the_row) job.the_send in
    let c = pass_send Job.the_row (Hand.the_row Job.the_row) Fair.the_row (fair.ghosts Job.the_row) in
    let d = sender_send mail (ReplyLane.the_row JobReply.the_row) InOrder.the_row (in_order.ghosts JobReply.the_row) mail_send in
    let e = pass_send mail (ReplyLane.the_row JobReply.the_row) InOrder.the_row (in_order.ghosts JobReply.the_row) in
    search sendable depth 20

pub writer_send : IsSend (Writer.the_field).row
writer_send =
    let a = receiver_send mail (ReplyLane.the_row JobReply.the_row) InOrder.the_row (in_order.ghosts JobReply.the_row) mail_send in
    let b = pass_send mail (ReplyLane.the_row JobReply.the_row) InOrder.the_row (in_order.ghosts JobReply.the_row) in
    let d = batch.the_field_send in
    search sendable depth 20

module _ (T : RattleType) (g : Ghosts T.Denot) where
  module _ (N : RattleType) (n : opening.Ghosts N.Denot) where
    abbrev pub thread_log_row : RattleType
    thread_log_row = ThreadLog.the_row (LogEntry.the_row T g) (Runs.the_row N) (naming.ghosts T N g naming.no_dict n naming.no_dict)

    pub thread_log_send : IsSend N → IsSend thread_log_row
    thread_log_send m = search (thread_log.the_send (LogEntry.the_row T g) (Runs.the_row N) (naming.ghosts T N g naming.no_dict n naming.no_dict), sendable)

  module _ (N O S : RattleType) (n : opening.Ghosts N.Denot) (o : out.Ghosts O.Denot) (k : sink.Ghosts S.Denot O.Denot) where
    pub writer_role_send : IsSend T → IsSync T → IsSend N → IsSend O → IsSend S → IsSend (WriterRole.the_row T N O S n o k g)
    writer_role_send s y m c d =
        let a : IsSend (Writer.the_field).row = writer_send in
        let b : IsSend (ThreadShare.the_field T g).row = search (kept.the_field_send T g, sendable) in
        let f = thread_log_send N n m in
        search sendable depth 20
