use Rattle.std.proofs.Common.{◌≡◌, true, false, inl, refl, sym, ◌∙◌}
use Rattle.table_steps.specs.Kept.{world_of}
use Rattle.table.specs.Made.{IsDueBy}
use Rattle.table.proofs.Renewing.{not_due}
use Rattle.table.proofs.table.Table.renew.Goals as goal

pub returns-else-is_due-clause-renews : goal.returns-else-is_due-clause-renews
returns-else-is_due-clause-renews g c =
    let none : IsDueBy c.made.result → ⊥ = λ due. let bad : false ≡ true = sym c.if-is_due.false ∙ c.is_due.ensures.1 due in cc in
    inl (not_due (world_of c.args.self.now) c.made.result c.made.ensures none, refl)
