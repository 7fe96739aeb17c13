use Rattle.std.proofs.Common.{ℤ, Result, None, sym, subst}
use Rattle.backing.specs.Entries.{tree_of}
use Rattle.backing.specs.Memory.{PutsDir}
use Rattle.backing.proofs.Ending.{puts_dir}
use Rattle.backing.proofs.perform.put_dir_in.Goals as goal

pub returns-clause-puts : goal.returns-clause-puts
returns-clause-puts c =
    let old = tree_of c.args.entries.now.items in
    let new = tree_of c.make_dir.new.entries.items in
    subst (λ (r : Result (Unit {0}) ℤ). PutsDir old c.args.path.now r new) (sym c.settle.ensures) (puts_dir old new c.args.path.now c.make_dir.result (c.make_dir.ensures.ends None))
