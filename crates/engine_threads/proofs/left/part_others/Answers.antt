use Rattle.std.proofs.Common.{vec_len, ◌+◌, ◌≡◌, ◌∙◌, ◌++◌, ◌∷◌, [], ℕ, suc, List, None, length, map, sym, ap, subst, arith}
use Rattle.std.specs.Vec.Iter.{into_iter_items}
use Rattle.std.specs.List.{range_with_len}
use Rattle.engine_turns.specs.declared.job.Job.{Job}
use Rattle.engine_queues.specs.declared.passes.Passes.{Passes}
use Rattle.engine_turns.specs.declared.replies.JobReply.{JobReply}
use Rattle.ledger.specs.Shares.{Part}
use Rattle.table_shared.specs.Runs.{Call}
use Rattle.engine_threads.specs.Worked.{HasEnded, IsSenderAt, IsTakerAt, did, does_shared, made_by}
use Rattle.engine_threads.specs.declared.worker_end.WorkerEnd.{WorkerEnd}
use Rattle.engine_threads.proofs.Each.{Others, one_more_at, some_ended}
use Rattle.engine_threads.proofs.Lists.{first_of, map_last, one_more, others_of, range_more}
use Rattle.engine_threads.proofs.left.part_others.Goals as goal

pub loop-end-preserved : goal.loop-end-preserved
loop-end-preserved g c =
    let i = c.loop-end.invariant in
    let s = c.in-Some.ensures.steps in
    let e = c.in-Some.end in
    let p = c.part-own in
    let own = p.result.0 in
    let left = p.result.1 in
    let l = c.loop-end in
    let a = c.push_reserved.ensures in
    let b = c.push_reserved-in-loop-end.ensures in
    let from = into_iter_items l.end-iterator in
    let rest = into_iter_items c.next.new.self in
    let End : Type 0 = WorkerEnd g.row.T.Denot g.row.N.Denot g.row.C.Denot g.row.S.Denot g.N.Opening g.C.Calls g.S.Workers in
    let P : End → Type 0 = λ (v : End). v.last_job.value ≡ None in
    let Own : Type 0 = Passes Job JobReply in
    let Q : Own → Type 0 = λ (q : Own). IsTakerAt g.S.Workers.work q.job_pass × IsSenderAt g.S.Workers.answers q.reply_pass in
    let n : ℕ = vec_len l.passes in
    let at : own.number ≡ n = p.ensures.number ∙ c.len.ensures in
    let at_zero : own.number ≡ 0 + n = omega (arith, at) in
    let none = first_of P e from rest s.0 i.none in
    let of = does_shared g.C.Calls.gives in
    let settings = g.S.Workers.settings in
    let given = g.S.Workers.given in
    let did_before : ℕ → List Call = did l.closed.table.log in
    let did_after : ℕ → List Call = did c.part-own.new.closed.table.log in
    let same_did : did_before ≡ did_after = ap (λ log. did log) (sym p.ensures.same) in
    let ended = some_ended of settings did_before given e.last_job.value None own left c.len.result none p.ensures.worked in
    let at_next = subst (λ (k : ℕ). ∥ ((share : Part) × HasEnded of settings given None own left share (made_by did_before k)) ∥₁) c.len.ensures ended in
    let here = subst (λ (d : ℕ → List Call). ∥ ((share : Part) × HasEnded of settings given None own left share (made_by d n)) ∥₁) same_did at_next in
    let before = subst (λ (d : ℕ → List Call). Others of settings d given n l.passes.items l.calls.items) same_did i.worked in
    let len_new : suc n ≡ vec_len c.push_reserved.new.self = (let x = a.len in omega arith) in
    let numbers = ap (map (λ (q : Own). q.number)) a.items ∙ (map_last (λ (q : Own). q.number) l.passes.items own ∙ (ap (λ ns. ns ++ own.number ∷ []) i.numbers ∙ (ap (λ k. range_with_len 0 n ++ k ∷ []) at_zero ∙ (sym (range_more 0 n) ∙ ap (range_with_len 0) len_new)))) in
    record {
      count = (let x = a.len in let y = s.1 in let z = i.count in omega arith);
      each = (let x = a.len in let y = b.len in let z = i.each in omega arith);
      rest_len = (let m : length from ≡ suc (length rest) = ap length s.0 in let k = s.1 in let z = i.rest_len in omega arith);
      room = ((let x = a.capacity in let y = i.room.0 in omega arith), (let x = b.capacity in let y = i.room.1 in omega arith));
      capacity = (a.capacity ∙ i.capacity.0, b.capacity ∙ i.capacity.1);
      none = others_of P e from rest s.0 i.none;
      numbers = numbers;
      seats = one_more Q l.passes.items c.push_reserved.new.self.items own a.items i.seats p.ensures.seats;
      worked = λ m below. one_more_at of settings did_after given n l.passes.items c.push_reserved.new.self.items l.calls.items c.push_reserved-in-loop-end.new.self.items own left a.items b.items (sym l.passes.ok.0) (sym l.calls.ok.0 ∙ i.each) at before here m (let x = a.len in omega (arith, below));
      same = p.ensures.same ∙ i.same;
    }
