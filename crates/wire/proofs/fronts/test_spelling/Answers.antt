use Rattle.std.proofs.Common.{rules}
use Rattle.wire.proofs.Names.{spelled_badly, spelled_well}
use Rattle.wire.proofs.fronts.test_spelling.Goals as goal

pub returns : goal.returns
returns c = spelled_well _ _ (search rules)

pub returns-then-not-takes : goal.returns-then-not-takes
returns-then-not-takes c = spelled_badly _ _ (search rules)
