use Rattle.std.proofs.Common.{◌-◌, ◌<◌, length, rules, arith}
use Rattle.ledger.specs.declared.postings.Posting.TheVariants.{Born}
use Rattle.table_image.specs.Parts.{after_closed}
use Rattle.table_image.proofs.Ledgers.{unmentioned-none, unmentioned-more, unmentioned-unbegun, mentioned}
use Rattle.table_image.proofs.lawful.postings.is_begun.Goals as goal

pub loop-k-init : goal.loop-k-init
loop-k-init c = unmentioned-none c.args.number c.args.generation c.args.postings.now

pub returns-then-is_about : goal.returns-then-is_about
returns-then-is_about c =
    let here : c.loop-k.k - 1 < length c.args.postings.now = omega arith in
    let ps = after_closed c.args._kept.now c.args.postings.now in
    (λ yes. mentioned ps c.args.number c.args.generation (c.loop-k.k - 1) (Born 0 0) c.requires here (c.is_about.ensures.0 (search rules)), λ born. search rules)

pub loop-k-preserved : goal.loop-k-preserved
loop-k-preserved c =
    unmentioned-more c.args.number c.args.generation c.loop-k.k c.args.postings.now (Born 0 0) (omega arith) (omega arith) (λ same. let yes = c.is_about.ensures.1 same in absurd (search rules)) c.loop-k.invariant

pub returns : goal.returns
returns c =
    let ps = after_closed c.args._kept.now c.args.postings.now in
    (λ yes. absurd (search rules), λ begun. absurd (unmentioned-unbegun c.args.number c.args.generation c.loop-k.k ps (omega arith) c.loop-k.invariant begun))
