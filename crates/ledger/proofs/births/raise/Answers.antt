use Rattle.std.proofs.Common.{◌≡◌, ◌+◌, get_or, ap, ◌∙◌, arith}
use Rattle.ledger.specs.declared.births.KeptBirths.{KeptBirths}
use Rattle.ledger.proofs.Rising.{closed_at, more_at, raised_at, rising_insert, rising_set}
use Rattle.ledger.proofs.births.raise.Goals as goal

pub index_mut-requires : goal.index_mut-requires
index_mut-requires c = omega (arith, c.in-Ok.ensures.0, c.deref.ensures.len)

pub overflow_add-index_mut : goal.overflow_add-index_mut
overflow_add-index_mut c =
    let bs = c.args.births.now.items in
    let old = c.index_mut.result.now in
    let (within, here) = rw c.deref.ensures.value at c.in-Ok.ensures in
    let there : old ≡ get_or bs c.in-Ok.place old = c.index_mut.ensures.value in
    let all = closed_at c.args.number bs c.in-Ok.place old c.requires.rising within (here old) in
    omega (arith, all, ap (λ (b : KeptBirths). b.count) there, c.requires.few)

pub insert-requires : goal.insert-requires
insert-requires c = omega (arith, c.in-Err.ensures.0, c.deref.ensures.len)

pub returns-in-Ok-clause-rising : goal.returns-in-Ok-clause-rising
returns-in-Ok-clause-rising c =
    let (within, here) = rw c.deref.ensures.value at c.in-Ok.ensures in
    rising_set c.args.births.now.items c.in-Ok.place (c.index_mut.result.now.count + 1) c.index_mut.result.now c.requires.rising within c.index_mut.ensures.value

pub returns-in-Ok-clause-raised : goal.returns-in-Ok-clause-raised
returns-in-Ok-clause-raised c = λ n.
    let old = c.index_mut.result.now in
    let (within, here) = rw c.deref.ensures.value at c.in-Ok.ensures in
    let there : old ≡ get_or c.args.births.now.items c.in-Ok.place old = c.index_mut.ensures.value in
    raised_at n c.args.number c.args.births.now.items c.in-Ok.place old within there (ap (λ (b : KeptBirths). b.number) there ∙ here old)

pub returns-in-Ok-clause-more : goal.returns-in-Ok-clause-more
returns-in-Ok-clause-more c =
    let (within, here) = rw c.deref.ensures.value at c.in-Ok.ensures in
    more_at c.args.births.now.items c.in-Ok.place c.index_mut.result.now within c.index_mut.ensures.value

pub returns-in-Ok-insert-clause-rising : goal.returns-in-Ok-insert-clause-rising
returns-in-Ok-insert-clause-rising c =
    let (within, apart) = rw c.deref.ensures.value at c.in-Err.ensures in
    rw (c.insert.ensures.items, c.in-Ok-insert.is) (rising_insert c.args.births.now.items c.in-Err.place (record { number = c.args.number; count = 1 }) c.requires.rising within apart)
