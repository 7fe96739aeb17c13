use Rattle.std.proofs.Common.{◌≡◌, drop}
use Rattle.std.specs.Prelude.{count_by}
use Rattle.ledger.specs.Sums.{is_birth}
use Rattle.table_image.proofs.lawful.births.last_generation.Given as goal

abbrev pub invariant-loop-k : goal.invariant-loop-k
invariant-loop-k l = count_by (is_birth l.number) (drop l.k l.postings) ≡ 0
