use Rattle.std.proofs.Common.{◌≡◌, ap, subst, ℕ}
use Rattle.std.specs.Prelude.{None, Option}
use Rattle.backing.specs.Calls.{AskMakeDir}
use Rattle.ops.specs.Ahead.{plan_ending}
use Rattle.ops.specs.Scripts.{Plan, entry_end, give_made, make}
use Rattle.ops.proofs.making.start_make_dir.Goals as goal

pub returns : goal.returns
returns c =
    let p = c.args.path.now in
    let bits = c.made_with-permissions.result in
    subst (λ (q : Option ℕ). make (AskMakeDir p bits) (plan_ending c.made.result) ≡ make (AskMakeDir p q) (give_made c.args.attributes c.args.caller None p entry_end))
    c.made_with-permissions.ensures (ap (λ (rest : Plan). make (AskMakeDir p bits) rest) c.made.ensures)
