use Rattle.std.proofs.Common.{◌+◌, ◌<◌, length, drop, length-drop, arith}
use Rattle.std.proofs.lemmas.List.{get_or-drop}
use Rattle.ledger.specs.declared.postings.Posting.TheVariants.{Born}
use Rattle.table.proofs.Counting.{fits_at}
use Rattle.table.proofs.table.post_since.Goals as goal

pub post-requires : goal.post-requires
post-requires g c =
    let ps = c.args.ledger.now.made in
    let i = c.loop-posting.posting-index in
    let inside : i < length (drop c.args.made ps.last) = rw c.loop-posting.invariant.items at c.loop-posting-test.true in
    let within : c.args.made + i < length ps.last = omega (arith, length-drop c.args.made ps.last) in
    rw (c.loop-posting.invariant.items, c.loop-posting.invariant.book, get_or-drop c.args.made ps.last i (Born 0 0)) (fits_at ps (c.args.made + i) (Born 0 0) c.totals-totals.ensures.fits within)
