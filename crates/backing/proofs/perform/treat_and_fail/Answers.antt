use Rattle.std.proofs.Common.{ℤ, w32, rules, ap, ◌∙◌}
use mir.Val.{SFits}
use Rattle.std.proofs.lemmas.Int.{to_z-of_z}
use Rattle.backing.specs.Calls.{asked}
use Rattle.backing.specs.Entries.{tree_of}
use Rattle.backing.specs.Refusals.{errno_after}
use Rattle.backing.proofs.Ending.{after_work, failure}
use Rattle.backing.proofs.perform.treat_and_fail.Goals as goal

pub returns-clause-treated : goal.returns-clause-treated
returns-clause-treated c =
    let fits : SFits w32 c.errno_after.result = search rules in
    let own_fits : SFits w32 c.args.errno = search rules in
    let is = c.failure.ensures ∙ ap (λ (n : ℤ). failure n) (to_z-of_z w32 c.errno_after.result fits ∙ (c.errno_after.ensures ∙ ap (λ (n : ℤ). errno_after c.perform-ended.result n) (to_z-of_z w32 c.args.errno own_fits))) in
    after_work (tree_of c.args.entries.now.items) (tree_of c.perform-ended.new.entries.items) (asked c.args.call) c.perform-ended.result c.args.errno c.failure.result c.perform-ended.ensures.ends is
