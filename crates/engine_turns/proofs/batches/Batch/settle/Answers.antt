use Rattle.std.proofs.Common.{◌≡◌, ◌+◌, ◌∙◌, None, Option, List, [], ap, drop, refl, subst, arith}
use Rattle.std.proofs.lemmas.Grind.{drop_more_same}
use Rattle.std.proofs.lemmas.List.{drop-set-lt, take_all}
use Rattle.handles.specs.Calls.{FolderCall}
use Rattle.table_shared.specs.Runs.{Call}
use Rattle.engine_turns.specs.TableCalls.{on_table_of}
use Rattle.engine_queues.specs.declared.left.Left.{Left}
use Rattle.engine_turns.specs.Batches.{SettlesAll, endings, taken_at}
use Rattle.engine_turns.specs.Turns.{ByBoth}
use Rattle.engine_turns.proofs.Answering.{none_more}
use Rattle.engine_turns.proofs.Batching.{settled_next}
use Rattle.engine_turns.proofs.batches.Batch.settle.Goals as goal

pub loop-at-init : goal.loop-at-init
loop-at-init g c = record {
  settled = record { folders = []; chain = refl; calls = []; on_table = none_more (on_table_of c.args.thread_log.now); so = record { turns = []; each = refl; all_are = record { settled_are = c.clear.ensures.items; folders_are = refl; on_table_are = refl } } };
  left = refl;
  len = refl;
  sent = refl;
  count = c.clear.ensures.len;
  entries = refl;
  index = refl;
}

pub loop-at-preserved : goal.loop-at-preserved
loop-at-preserved g c =
    let l = c.loop-at in
    let i = l.invariant in
    let lefts = c.args.self.now.left.items in
    let t = c.take_at-left in
    let s = c.settle_left-settled in
    let taken : c.is_taken_at-taken.result ≡ taken_at c.args.self.now.sent.items l.at = c.is_taken_at-taken.ensures ∙ ap (λ ss. taken_at ss l.at) (c.as_slice.ensures.value ∙ i.sent) in
    record {
      settled = settled_next g.D.Folders.keeps c.args.dirs.now l.dirs s.new.dirs (on_table_of c.args.thread_log.now) (on_table_of l.thread_log) (on_table_of s.new.thread_log) l.self.left.items lefts c.args.self.now.sent.items l.self.settled.items c.push_reserved.new.self.items l.at t.result c.is_taken_at-taken.result s.result
          (let a = c.loop-at-test.true in let b = c.len-at-end.ensures in let d = c.args.self.now.left.ok.0 in omega arith) i.left t.ensures.taken taken c.push_reserved.ensures.items i.settled s.ensures.ends;
      left = ap (λ ls. drop (l.at + 1) ls) t.ensures.others ∙ (drop-set-lt (l.at + 1) l.self.left.items l.at None (omega arith) ∙ drop_more_same l.self.left.items lefts l.at i.left);
      len = t.ensures.len ∙ i.len;
      sent = i.sent;
      count = (let a = c.push_reserved.ensures.len in let b = i.count in omega arith);
      entries = s.ensures.entries ∙ i.entries;
      index = s.ensures.index ∙ i.index;
    }

pub returns-clause-settles : goal.returns-clause-settles
returns-clause-settles g c =
    let lefts = c.args.self.now.left.items in
    let past = c.loop-at-test.false in
    let len = c.len-at-end.ensures ∙ c.args.self.now.left.ok.0 in
    subst (λ (ls : List (Option Left)). ByBoth g.D.Folders.keeps c.args.dirs.now (on_table_of c.args.thread_log.now) c.loop-at.dirs (on_table_of c.loop-at.thread_log) (λ (folders : List FolderCall) (calls : List Call). SettlesAll ls c.args.self.now.sent.items (endings c.loop-at.self.settled.items folders calls)))
    (take_all c.loop-at.at lefts (omega (arith, past, len))) c.loop-at.invariant.settled
