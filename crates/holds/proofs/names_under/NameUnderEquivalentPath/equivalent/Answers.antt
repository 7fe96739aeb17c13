use Rattle.std.proofs.Common.{◌++◌, ◌∷◌, []}
use Rattle.holds.proofs.Numbering.{same_test}
use Rattle.holds.proofs.names_under.NameUnderEquivalentPath.equivalent.Goals as goal

pub returns : goal.returns
returns c = same_test c.is_under.result (c.args.self.now.parent.now ++ c.args.self.now.name.now ∷ []) c.args.path.now c.is_under.ensures
