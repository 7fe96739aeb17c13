use Rattle.ledger.specs.declared.postings.Posting.TheVariants.{Born}
use Rattle.std.proofs.Common.{arith}
use Rattle.table_image.specs.Parts.{after_closed}
use Rattle.table_image.proofs.Ledgers.{last_birth}
use Rattle.table_image.proofs.lawful.births.last_generation.Goals as goal

pub returns-in-Some-clause-some : goal.returns-in-Some-clause-some
returns-in-Some-clause-some c =
    last_birth (after_closed c.args.kept.now c.args.postings.now) c.args.number c.in-Some.generation c.loop-k.k (Born 0 0) c.requires.ordered (omega arith) (omega arith) c.in-Some.ensures.some c.loop-k.invariant
