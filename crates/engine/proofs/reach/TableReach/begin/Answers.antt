use Rattle.std.proofs.Common.{ap, ◌∙◌}
use Rattle.ledger.specs.Sums.{totals_over}
use Rattle.table_steps.specs.Kept.{world_of}
use Rattle.table.proofs.Closing.{totals_renewed}
use Rattle.table.proofs.Gaining.{gains_totals}
use Rattle.engine.proofs.Begun.{begun_posts_nothing}
use Rattle.engine.proofs.reach.TableReach.begin.Goals as goal

pub returns-clause-begins : goal.returns-clause-begins
returns-clause-begins g c = (record { renewed = world_of c.renew.new.self; renews = c.renew.ensures.renews; begins = c.begin.ensures.begins }, c.begin.ensures.lawful)

pub returns-clause-gains : goal.returns-clause-gains
returns-clause-gains g c share =
    let old = world_of c.args.self.now in
    let mid = world_of c.renew.new.self in
    let new = world_of c.begin.new.self in
    gains_totals old new share c.begin.ensures.lawful (ap totals_over (begun_posts_nothing mid new c.args.unique c.args.want c.begin.result c.begin.ensures.begins) ∙ totals_renewed old mid c.renew.ensures.renews)
