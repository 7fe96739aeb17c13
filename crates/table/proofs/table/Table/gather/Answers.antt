use Rattle.std.proofs.Common.{◌≡◌, ◌∙◌, IfOk, ap, subst}
use Rattle.ledger.specs.Sums.{totals_over}
use Rattle.table_steps.specs.declared.state.State.{State}
use Rattle.table.proofs.table.Table.gather.Goals as goal

pub returns-clause-ledger : goal.returns-clause-ledger
returns-clause-ledger g c =
    subst (λ book. IfOk c.gather.result (λ totals. totals ≡ book)) (c.self.invariant.1 ∙ ap (λ (s : State). totals_over s.ledger.made) c.self.view_is) c.gather.ensures.book
