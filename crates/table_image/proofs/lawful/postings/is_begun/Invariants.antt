use Rattle.table_image.proofs.Ledgers.{IsUnmentioned}
use Rattle.table_image.proofs.lawful.postings.is_begun.Given as goal

abbrev pub invariant-loop-k : goal.invariant-loop-k
invariant-loop-k l = IsUnmentioned l.number l.generation l.k l.postings
