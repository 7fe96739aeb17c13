use Rattle.std.proofs.Common.{◌<◌, ◌++◌, List, [], ◌∷◌, Option, None, length, arith, sym, ap, ◌∙◌}
use Rattle.table_requests.specs.declared.data.Given.{Given}
use Rattle.table_requests.specs.Roomy.{Listed}
use Rattle.table_steps.specs.Ending.{keys_in}
use Rattle.table_steps.proofs.Filling.{nothing_more}
use Rattle.table_steps.proofs.give.give_none.Goals as goal

pub loop-next-preserved : goal.loop-next-preserved
loop-next-preserved c =
    let keys = keys_in c.args.entries.now in
    let i = c.loop-next.next in
    let within : i < length keys = omega (arith, c.loop-next-test.true, c.len-next-end.ensures) in
    record {
      given = ap (λ (l : Listed). l.items) c.add.ensures
          ∙ (ap (λ (gs : List (Option Given)). gs ++ None ∷ []) c.loop-next.invariant.given ∙ sym (nothing_more keys i within));
      room = omega (arith, c.loop-next.invariant.room, ap (λ (l : Listed). l.room) c.add.ensures, within);
    }
