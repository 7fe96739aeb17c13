use Rattle.std.proofs.Common.{sym, ◌∙◌, arith}
use Rattle.indexmap.proofs.MapLemmas.{OnOk-map}
use Rattle.holds.proofs.Numbering.{counted_new}
use Rattle.holds.proofs.numbers.raise_once.Goals as goal

pub returns-clause-shared : goal.returns-clause-shared
returns-clause-shared c = OnOk-map c.raise.result _ _ (λ step p.
    let new = counted_new c.args.before.now c.args.path.now c.args.one.shared (sym c.contains.ensures.among ∙ c.if-contains.false) p in
    let risen = step p in
    omega (arith, new, risen)) c.raise.ensures.shared

pub returns-clause-exclusive : goal.returns-clause-exclusive
returns-clause-exclusive c = OnOk-map c.raise.result _ _ (λ step p.
    let new = counted_new c.args.before.now c.args.path.now c.args.one.exclusive (sym c.contains.ensures.among ∙ c.if-contains.false) p in
    let risen = step p in
    omega (arith, new, risen)) c.raise.ensures.exclusive
