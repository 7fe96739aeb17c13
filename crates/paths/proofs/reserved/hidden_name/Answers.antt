use Rattle.std.proofs.Common.{◌≡◌, rules, sym, subst}
use Rattle.paths.specs.Hidden.{IsLawfulName, hidden_name}
use Rattle.paths.proofs.Digits.{lawful}
use Rattle.paths.proofs.reserved.hidden_name.Goals as goal

pub returns-clause-lawful : goal.returns-clause-lawful
returns-clause-lawful c =
    let e : c.in_ok-name.name ≡ hidden_name c.args.number c.args.counter = search rules in
    subst IsLawfulName (sym e) (lawful c.args.number c.args.counter)
