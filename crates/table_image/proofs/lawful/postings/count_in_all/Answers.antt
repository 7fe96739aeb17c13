use Rattle.std.proofs.Common.{◌<◌, length, arith}
use Rattle.ledger.specs.declared.postings.Posting.TheVariants.{Born}
use Rattle.table_image.specs.Parts.{after_closed}
use Rattle.table_image.proofs.Balance.{one_more}
use Rattle.table_image.proofs.lawful.postings.count_in_all.Goals as goal

pub overflow_add-left : goal.overflow_add-left
overflow_add-left c = record { fits = omega (arith, c.loop-posting.invariant.small, c.from-left.ensures, c.made.type_inv, c.loop-posting-test.true) }

pub overflow_sub-left : goal.overflow_sub-left
overflow_sub-left c =
    let within : c.loop-posting.posting-index < length c.args.postings.now = omega arith in
    let more = one_more (after_closed c.args._kept.now c.args.postings.now) c.loop-posting.posting-index (Born 0 0) within c.requires in
    omega (arith, more.entries, more.gifts, more.covered, c.loop-posting.invariant.rest, c.from-left.ensures, c.made.ensures, c.taken.ensures, c.from-left-in-loop-posting.ensures)

pub loop-posting-preserved : goal.loop-posting-preserved
loop-posting-preserved c =
    let within : c.loop-posting.posting-index < length c.args.postings.now = omega arith in
    let more = one_more (after_closed c.args._kept.now c.args.postings.now) c.loop-posting.posting-index (Born 0 0) within c.requires in
    record {
      rest = omega (arith, more.entries, more.gifts, more.covered, c.loop-posting.invariant.rest, c.from-left.ensures, c.made.ensures, c.taken.ensures, c.from-left-in-loop-posting.ensures);
      small = omega (arith, c.loop-posting.invariant.small, c.from-left.ensures, c.made.type_inv);
    }
