use Rattle.std.proofs.Common.{arith}
use Rattle.std.proofs.lemmas.Bool.{ltb-true}
use Rattle.paths.proofs.PrefixLemmas.{is_prefix-whole}
use Rattle.table_footprints.proofs.found.is_proper_prefix.Goals as goal

pub returns-else-len : goal.returns-else-len
returns-else-len c = (
  λ bad. absurd (omega (arith, ltb-true c.len.result c.len-2.result bad, c.if-len.false)),
  λ is. absurd (is.other (is_prefix-whole c.args.path.now c.args.other.now is.begins (omega (arith, c.if-len.false, c.len.ensures, c.len-2.ensures)))),
)
