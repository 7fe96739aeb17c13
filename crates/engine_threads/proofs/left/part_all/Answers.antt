use Rattle.std.proofs.Common.{suc, vec_len, ◌≡◌, ◌∙◌, ◌+◌, ◌++◌, ◌∷◌, [], ℕ, List, map, sym, ap, subst, arith}
use Rattle.std.specs.List.{range_with_len}
use Rattle.ledger.specs.Shares.{Part}
use Rattle.engine_turns.specs.declared.job.Job.{Job}
use Rattle.engine_queues.specs.declared.passes.Passes.{Passes}
use Rattle.engine_turns.specs.declared.replies.JobReply.{JobReply}
use Rattle.table_shared.specs.Runs.{Call}
use Rattle.engine_threads.specs.Worked.{HasEnded, IsSenderAt, IsTakerAt, did, does_shared, made_by}
use Rattle.engine_threads.proofs.Each.{each_worked}
use Rattle.engine_threads.proofs.Lists.{map_last, one_more, range_more}
use Rattle.engine_threads.proofs.left.part_all.Goals as goal

pub returns : goal.returns
returns g c =
    let q = c.part_others-passes in
    let p = c.part-own in
    let own = p.result.0 in
    let left = p.result.1 in
    let a = c.push_reserved.ensures in
    let b = c.push_reserved-2.ensures in
    let ps = q.result.passes.items in
    let ls = q.result.calls.items in
    let n : ℕ = vec_len q.result.passes in
    let of = does_shared g.C.Calls.gives in
    let settings = g.S.Workers.settings in
    let given = g.S.Workers.given in
    let last_job = c.args.last.last_job.value in
    let did_first : ℕ → List Call = did c.args.closed.now.table.log in
    let did_then : ℕ → List Call = did q.new.closed.table.log in
    let same_did : did_then ≡ did_first = ap (λ log. did log) q.ensures.same in
    let at_next = subst (λ (k : ℕ). ∥ ((share : Part) × HasEnded of settings given last_job own left share (made_by did_then k)) ∥₁) c.len.ensures p.ensures.worked in
    let here = subst (λ (d : ℕ → List Call). ∥ ((share : Part) × HasEnded of settings given last_job own left share (made_by d n)) ∥₁) same_did at_next in
    let Own : Type 0 = Passes Job JobReply in
    let Q : Own → Type 0 = λ (v : Own). IsTakerAt g.S.Workers.work v.job_pass × IsSenderAt g.S.Workers.answers v.reply_pass in
    let len = q.ensures.len in
    let at : own.number ≡ n = p.ensures.number ∙ c.len.ensures in
    let at_zero : own.number ≡ 0 + n = omega (arith, at) in
    let len_new : suc n ≡ vec_len c.args.others + 1 = (let x = len.0 in omega arith) in
    let numbers = ap (map (λ (v : Own). v.number)) a.items ∙ (map_last (λ (v : Own). v.number) ps own ∙ (ap (λ ns. ns ++ own.number ∷ []) (q.ensures.numbers ∙ ap (range_with_len 0) (sym len.0)) ∙ (ap (λ k. range_with_len 0 n ++ k ∷ []) at_zero ∙ (sym (range_more 0 n) ∙ ap (range_with_len 0) len_new)))) in
    record {
      len = ((let x = a.len in let y = len.0 in omega arith), (let x = b.len in let y = len.1 in omega arith));
      numbers = numbers;
      seats = one_more Q ps c.push_reserved.new.self.items own a.items q.ensures.seats p.ensures.seats;
      worked = each_worked of settings did_first given n last_job ps c.push_reserved.new.self.items ls c.push_reserved-2.new.self.items own left a.items b.items (sym q.result.passes.ok.0) (sym q.result.calls.ok.0 ∙ (len.1 ∙ sym len.0)) at (let x = len.0 in let y = c.requires.given in omega arith) (λ m below. q.ensures.worked m (let x = len.0 in omega (arith, below))) here;
      same = p.ensures.same ∙ q.ensures.same;
    }
