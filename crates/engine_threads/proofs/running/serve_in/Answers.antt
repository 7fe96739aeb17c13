use Rattle.crossbeam_channel.specs.Ends.{sends_on}
use Rattle.engine_turns.specs.TableCalls.{on_table_of}
use Rattle.engine_threads.specs.Beginning.{IsReadyAt, IsReadyHere}
use Rattle.engine_threads.specs.Served.{served_with}
use Rattle.engine_threads.specs.declared.preparing.ReadyWorker.{ReadyWorker}
use Rattle.engine_threads.proofs.Beginnings.{ready_here, unread}
use Rattle.engine_threads.proofs.Lists.{all_so}
use Rattle.engine_threads.proofs.running.serve_in.Goals as goal

pub with_directories-roles-requires-clause-ready : goal.with_directories-roles-requires-clause-ready
with_directories-roles-requires-clause-ready g c =
    let Ready : Type 0 = ReadyWorker g.row.T.Denot g.row.N.Denot in
    let p = c.args.prepared in
    let jobs = sends_on p.senders.jobs in
    let replies = sends_on p.senders.replies in
    let r = c.requires in
    all_so (λ (w : Ready). IsReadyAt jobs replies p.settings w.worker w.kept.share (on_table_of w.thread_log)) (λ (w : Ready). IsReadyHere g.S.Workers.work g.S.Workers.answers g.S.Workers.settings w.worker w.kept.share (on_table_of w.thread_log)) p.workers.items
    (λ w at. ready_here jobs replies p.settings g.S.Workers.work g.S.Workers.answers g.S.Workers.settings w.worker w.kept.share (on_table_of w.thread_log) r.jobs.1 r.replies.1 r.workers.0 at) p.ready

pub new-reader-requires-clause-fresh : goal.new-reader-requires-clause-fresh
new-reader-requires-clause-fresh g c = unread c.args.given.link_in c.args.prepared.reader c.args.prepared.unread

pub returns-clause-ran : goal.returns-clause-ran
returns-clause-ran g c =
    let given = c.args.given in
    let r = c.requires in
    c.check_off.ensures.ran c.args.prepared.settings (served_with given.link_in given.link_out given.calls.items) r.workers.0 r.links.0 r.links.1 r.workers.1
