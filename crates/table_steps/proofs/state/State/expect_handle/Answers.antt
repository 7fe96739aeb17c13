use Rattle.std.proofs.Common.{sym, ap, ◌∙◌}
use Rattle.std.proofs.lemmas.Bool.{false≢true}
use Rattle.table_steps.specs.Beginning.{used_in}
use Rattle.table_steps.specs.Kept.{world_of}
use Rattle.table_steps.proofs.Using.{used_badly}
use Rattle.table_steps.proofs.state.State.expect_handle.Goals as goal

pub returns-else-is_usable-clause-err : goal.returns-else-is_usable-clause-err
returns-else-is_usable-clause-err c =
    used_badly (world_of c.args.self.now) c.args.want.now (record { number = c.in-Some.number; handle = c.in-Some.handle }) (ap used_in (sym c.in-Some.is) ∙ c.used_by.ensures) c.len-nodes.ensures.tree _ c.requires.filed.many
    (λ usable. false≢true (sym c.if-is_usable.false ∙ c.is_usable.ensures.1 usable))
