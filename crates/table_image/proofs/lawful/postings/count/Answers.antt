use Rattle.std.proofs.Common.{◌-◌, get_or, arith, rules}
use Rattle.ledger.specs.declared.postings.Posting.TheVariants.{Born}
use Rattle.ledger.proofs.SumsLemmas.{given_back_of-le}
use Rattle.table_image.specs.Parts.{Begins, after_closed}
use Rattle.table_image.proofs.Ledgers.{all_from_none, from_begin, reads_on}
use Rattle.table_image.proofs.lawful.postings.count.Goals as goal

pub overflow_sub-result : goal.overflow_sub-result
overflow_sub-result c =
    let ps = after_closed c.args._kept.now c.args.postings.now in
    let n = c.args.number in
    let g = c.args.generation in
    let begins : Begins (get_or ps.last (c.loop-k.k - 1) (Born 0 0)) n g = c.begins.ensures.0 (search rules) in
    let all = from_begin ps n g (c.loop-k.k - 1) (Born 0 0) c.requires.ordered (omega arith) begins in
    let on = reads_on ps.last n g c.loop-k.k (Born 0 0) (omega arith) (omega arith) in
    omega (arith, c.loop-k.invariant.entered, c.loop-k.invariant.gone, on.entries, on.given, all.entries, all.given, c.from-entries.ensures, c.entered.ensures, c.from-gone.ensures, c.given.ensures, given_back_of-le n g ps c.requires.never_negative)

pub returns-then-begins : goal.returns-then-begins
returns-then-begins c =
    let ps = after_closed c.args._kept.now c.args.postings.now in
    let n = c.args.number in
    let g = c.args.generation in
    let begins : Begins (get_or ps.last (c.loop-k.k - 1) (Born 0 0)) n g = c.begins.ensures.0 (search rules) in
    let all = from_begin ps n g (c.loop-k.k - 1) (Born 0 0) c.requires.ordered (omega arith) begins in
    let on = reads_on ps.last n g c.loop-k.k (Born 0 0) (omega arith) (omega arith) in
    omega (arith, c.loop-k.invariant.entered, c.loop-k.invariant.gone, on.entries, on.given, all.entries, all.given, c.from-entries.ensures, c.entered.ensures, c.from-gone.ensures, c.given.ensures, given_back_of-le n g ps c.requires.never_negative)

pub overflow_sub-result-2 : goal.overflow_sub-result-2
overflow_sub-result-2 c =
    let ps = after_closed c.args._kept.now c.args.postings.now in
    let all = all_from_none ps.last c.args.number c.args.generation c.loop-k.k (omega arith) in
    omega (arith, c.loop-k.invariant.entered, c.loop-k.invariant.gone, all.entries, all.given, given_back_of-le c.args.number c.args.generation ps c.requires.never_negative)

pub returns : goal.returns
returns c =
    let ps = after_closed c.args._kept.now c.args.postings.now in
    let all = all_from_none ps.last c.args.number c.args.generation c.loop-k.k (omega arith) in
    omega (arith, c.loop-k.invariant.entered, c.loop-k.invariant.gone, all.entries, all.given, given_back_of-le c.args.number c.args.generation ps c.requires.never_negative)
