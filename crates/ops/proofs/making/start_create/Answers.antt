use Rattle.std.proofs.Common.{◌≡◌, ap, subst, ℕ}
use Rattle.std.specs.Prelude.{Option}
use Rattle.backing.specs.Calls.{AskMake}
use Rattle.ops.specs.Ahead.{plan_ending}
use Rattle.ops.specs.Scripts.{Plan, file_end, give_made, make}
use Rattle.ops.proofs.making.start_create.Goals as goal

pub returns : goal.returns
returns c =
    let p = c.args.path.now in
    let bits = c.made_with-permissions.result in
    subst (λ (q : Option ℕ). make (AskMake p bits) (plan_ending c.made.result) ≡ make (AskMake p q) (give_made c.args.attributes c.args.caller q p file_end))
    c.made_with-permissions.ensures (ap (λ (rest : Plan). make (AskMake p bits) rest) c.made.ensures)
