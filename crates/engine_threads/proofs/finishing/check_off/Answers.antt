use Rattle.std.proofs.Common.{◌≡◌, ◌∙◌, ◌+◌, ℕ, List, Option, length, sym, ap, subst, subst₂, vec_len}
use Rattle.std.specs.List.{flat_map, range_with_len}
use Rattle.crossbeam_channel.specs.Claims.{view}
use Rattle.engine_queues.specs.Gathered.{numbers_of, puts_of, takings_of}
use Rattle.engine_queues.specs.Jobs.{AreTaken}
use Rattle.engine_queues.specs.Replies.{AreGot}
use Rattle.engine_queues.specs.declared.jobs.Hand.{Hand}
use Rattle.engine_turns.specs.declared.job.Job.{Job}
use Rattle.engine_queues.specs.declared.replies.ReplyLane.{ReplyLane}
use Rattle.engine_turns.specs.Queues.{JobQueue, ReplyQueue}
use Rattle.engine_turns.specs.TableCalls.{on_table_of}
use Rattle.engine_turns.specs.declared.replies.JobReply.{JobReply}
use Rattle.table_shared.specs.Runs.{Call}
use Rattle.engine_threads.specs.Worked.{AreSeatedAt, did, does_shared}
use Rattle.engine_threads.proofs.Checked.{each_did, reader_did, shared_so, writer_did}
use Rattle.engine_threads.proofs.finishing.check_off.Goals as goal

pub gather_all-taken-requires-clause-seats : goal.gather_all-taken-requires-clause-seats
gather_all-taken-requires-clause-seats g c =
    subst₂ (λ (w : Option JobQueue) (a : Option ReplyQueue). AreSeatedAt w a c.part_all-parted.result.passes.items) c.requires.jobs.1 c.requires.replies.1 c.part_all-parted.ensures.seats

pub returns-clause-ran : goal.returns-clause-ran
returns-clause-ran g c settings given set heard sent these =
    let r = c.part_all-parted in
    let p = c.passed_by-passed in
    let rd = c.into_end-read in
    let w = c.into_end-written in
    let t = c.new-traffic in
    let lists = ap (λ v. v.items) (sym p.ensures.passes) in
    let read = ap view (sym p.ensures.read.1) in
    let written = ap view (sym p.ensures.written.0) in
    let last_job = sym p.ensures.read.2 in
    let count : length given.calls ≡ vec_len c.args.ends.others + 1 = ap length (sym these) ∙ c.requires.given in
    let did_before : ℕ → List Call = did c.close-closed.result.table.log in
    let did_then : ℕ → List Call = did c.look.new.self.table.log in
    let did_after : ℕ → List Call = did r.new.closed.table.log in
    let same_look : did_before ≡ did_then = ap (λ log. did log) (sym c.look.ensures.same) in
    let same_part : did_then ≡ did_after = ap (λ log. did log) (sym r.ensures.same) in
    let jobs = subst (λ (h : Hand Job). AreTaken h.put (flat_map (λ js. js) (takings_of r.result.passes.items))) (ap view t.ensures.0) c.gather_all-taken.ensures.jobs in
    let replies = subst (λ (l : ReplyLane JobReply). AreGot (puts_of r.result.passes.items) l.got) (ap view t.ensures.1) c.gather_all-taken.ensures.replies in
    record {
      numbers = ap numbers_of (sym lists) ∙ (r.ensures.numbers ∙ ap (range_with_len 0) (sym count));
      reads = reader_did g.I.LinkIn.receives _ _ _ _ _ _ _ _ rd.result.1 heard (sym p.ensures.read.0) read last_job rd.ensures.read;
      shared = shared_so _ _ _ _ _ _ read lists written rd.ensures.numbered jobs replies;
      worked = each_did (does_shared g.C.Calls.gives) _ _ did_then did_after _ _ _ _ _ _ r.result.calls.items set same_part (c.requires.last ∙ (sym rd.ensures.same.1 ∙ last_job)) these lists r.ensures.worked;
      writes = writer_did g.O.LinkOut.sends _ _ _ _ (on_table_of w.result.thread_log) did_before did_after _ _ w.result.link _ _ sent (c.requires.each.1 ∙ sym count) c.look.ensures.calls (same_look ∙ same_part) written (sym p.ensures.written.1) w.ensures.wrote;
    }
