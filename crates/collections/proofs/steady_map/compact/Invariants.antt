use Rattle.collections.proofs.Sifting.{IsSiftedMap}
use Rattle.collections.proofs.steady_map.compact.Given as goal

abbrev pub invariant-loop-i : goal.invariant-loop-i
invariant-loop-i g l = IsSiftedMap g.K.PartialEq.eq l.fn.map l.map l.i l.kept
