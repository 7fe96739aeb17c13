use Rattle.std.proofs.Common.{◌≡◌, ◌<◌, ◌∷◌, ◌++◌, [], arith, sym}
use Rattle.ledger.specs.Periods.{Periods, posted}
use Rattle.ledger.specs.declared.postings.Posting.TheVariants.{Back}
use Rattle.tree.specs.Places.{at_in}
use Rattle.table_steps.specs.Keeping.{kept_by}
use Rattle.table_steps.proofs.Backs.{nearly_back}
use Rattle.table_steps.proofs.settle.take_back.Goals as goal

pub returns-clause-nearly : goal.returns-clause-nearly
returns-clause-nearly c =
    let x = c.in-Some.node.now in
    let stood = sym c.in-Some.ensures.found in
    let some : 0 < x.count = omega arith in
    let made : c.post.new.self.made ≡ posted c.args.ledger.now.made (Back c.args.number x.generation) = c.post.ensures.made in
    nearly_back (at_in c.args.tree.now) (at_in c.set_count.new.self) c.args.ledger.now.made c.post.new.self.made (kept_by c.args._keepers.flights.now c.args._keepers.files.now) c.args._pins.now c.args.number x
    c.requires.nearly stood some c.requires.suspect (c.set_count.ensures.writes x stood).nodes made c.set_count.ensures.tree
