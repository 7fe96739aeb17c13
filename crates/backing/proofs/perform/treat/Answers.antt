use Rattle.std.proofs.Common.{Option, sym, subst}
use Rattle.backing.specs.declared.plans.PlannedFault.{PlannedFault}
use Rattle.backing.specs.Calls.{asked}
use Rattle.backing.specs.Entries.{tree_of}
use Rattle.backing.specs.Memory.{Treated, treated_as}
use Rattle.backing.proofs.perform.treat.Goals as goal

pub returns-in-None-clause-treated : goal.returns-in-None-clause-treated
returns-in-None-clause-treated c = subst (λ (fault : Option PlannedFault). Treated (tree_of c.args.entries.now.items) (treated_as fault) (asked c.args.call) c.treat_soundly.result (tree_of c.treat_soundly.new.entries.items)) (sym c.in-None.is) c.treat_soundly.ensures.treated

pub returns-in-Some-clause-treated : goal.returns-in-Some-clause-treated
returns-in-Some-clause-treated c = subst (λ (fault : Option PlannedFault). Treated (tree_of c.args.entries.now.items) (treated_as fault) (asked c.args.call) c.treat_as_planned.result (tree_of c.treat_as_planned.new.entries.items)) (sym c.in-Some.is) c.treat_as_planned.ensures.treated
