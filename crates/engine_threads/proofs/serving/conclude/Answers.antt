use Rattle.std.proofs.Common.{◌≡◌, ◌∙◌, ◌≤◌, ◌+◌, ℕ, [], length, sym, ap, subst}
use Rattle.ledger.specs.Sums.{totals_over}
use Rattle.table_steps.specs.World.{World}
use Rattle.engine.specs.Serving.{RemovesLeft}
use Rattle.engine.specs.Tables.{worlds}
use Rattle.engine_threads.specs.Served.{LastRemoves, behaviours, served_with}
use Rattle.engine_threads.specs.Worked.{did}
use Rattle.engine_threads.proofs.Served.{has_served}
use Rattle.table_steps.specs.World.{opened_world}
use Rattle.table_shared.specs.Histories.{history_of, last_world}
use Rattle.engine_threads.proofs.serving.conclude.Goals as goal

pub returns-clause-served : goal.returns-clause-served
returns-clause-served g c settings link_in link_out calls threads ran =
    let over = c.args.over in
    let log = over.closed.table.log in
    let a = c.attest.ensures in
    let world : World = last_world (opened_world g.N.Opening.limits) (history_of log) in
    let back = c.push_reserved.new.self.items in
    let nobody : (index : ℕ) → length calls + 1 ≤ index → did log index ≡ [] = λ index le. a.nobody index (subst (λ (k : ℕ). k ≤ index) (sym threads) le) in
    let are = c.gather-sums.ensures ∙ ap (λ (w : World). totals_over w.postings) c.into_table-table.ensures in
    let removes : LastRemoves g.C.Calls.gives world over.calls.items back = record {
      others = c.pop.new.self.items;
      left = c.in-Some.last;
      lefts_are = c.in-Some.ensures.items;
      last = c.remove_leftovers.new.calls;
      back_are = c.push_reserved.ensures.items;
      removes = subst (λ (w : World). RemovesLeft worlds g.C.Calls.gives c.in-Some.last w c.remove_leftovers.new.calls) c.into_table-table.ensures c.remove_leftovers.ensures;
    } in
    has_served (behaviours g.C.Calls.gives g.I.LinkIn.receives g.O.LinkOut.sends) settings g.N.Opening.limits log over.passed c.gather-sums.result.totals (served_with link_in link_out calls) (served_with over.link_in over.link_out back) over.calls.items
    a.history a.current nobody are ran removes
