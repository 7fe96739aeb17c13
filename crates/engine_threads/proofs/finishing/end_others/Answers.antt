use Rattle.std.proofs.Common.{◌≡◌, None, arith}
use Rattle.engine_threads.specs.declared.worker_end.WorkerEnd.{WorkerEnd}
use Rattle.engine_threads.proofs.Lists.{one_more}
use Rattle.engine_threads.proofs.finishing.end_others.Goals as goal

pub loop-role-preserved : goal.loop-role-preserved
loop-role-preserved g c =
    let i = c.loop-role.invariant in
    let a = c.push_reserved.ensures in
    let End : Type 0 = WorkerEnd g.row.T.Denot g.row.N.Denot g.row.C.Denot g.row.S.Denot g.N.Opening g.C.Calls g.S.Workers in
    record {
      none = one_more (λ (e : End). e.last_job.value ≡ None) c.loop-role.ends.items c.push_reserved.new.self.items c.into_end.result a.items i.none c.into_end.ensures;
      len = (let x = a.len in let y = c.in-Some.ensures.steps.1 in let z = i.len in omega arith);
      room = (let x = a.capacity in let y = i.room in omega arith);
    }
