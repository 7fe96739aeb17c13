use Rattle.std.proofs.Common.{ℤ, w32, rules, sym, ap, ◌∙◌, subst}
use mir.Val.{SFits}
use Rattle.std.proofs.lemmas.Int.{to_z-of_z}
use Rattle.backing.specs.declared.plans.PlannedFault.{PlannedFault}
use Rattle.backing.specs.Calls.{asked}
use Rattle.backing.specs.Device.{After}
use Rattle.backing.specs.Entries.{tree_of}
use Rattle.backing.specs.Memory.{Treated, device_of}
use Rattle.backing.proofs.Ending.{failed_before, failure}
use Rattle.backing.proofs.perform.treat_as_planned.Goals as goal

pub returns-in-Before-clause-treated : goal.returns-in-Before-clause-treated
returns-in-Before-clause-treated c =
    let old = tree_of c.args.entries.now.items in
    let fits : SFits w32 c.in-Before.errno = search rules in
    let treated = failed_before old (asked c.args.call) c.in-Before.errno c.failure.result (c.failure.ensures ∙ ap (λ (n : ℤ). failure n) (to_z-of_z w32 c.in-Before.errno fits)) in
    subst (λ (fault : PlannedFault). Treated old (device_of fault) (asked c.args.call) c.failure.result old) (sym c.in-Before.is) treated

pub returns-in-After-clause-treated : goal.returns-in-After-clause-treated
returns-in-After-clause-treated c =
    let old = tree_of c.args.entries.now.items in
    let new = tree_of c.treat_and_fail.new.entries.items in
    let fits : SFits w32 c.in-After.errno = search rules in
    let treated = subst (λ (n : ℤ). Treated old (After n) (asked c.args.call) c.treat_and_fail.result new) (to_z-of_z w32 c.in-After.errno fits) c.treat_and_fail.ensures.treated in
    subst (λ (fault : PlannedFault). Treated old (device_of fault) (asked c.args.call) c.treat_and_fail.result new) (sym c.in-After.is) treated
