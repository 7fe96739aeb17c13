use Rattle.std.proofs.Common.{◌==◌, ◌<◌, ◌≤◌, cond, ℕ, Bool, true, false, length, arith}
use Rattle.std.proofs.lemmas.List.Sums.{sum_by_more_le_part}
use Rattle.ledger.specs.declared.births.KeptBirths.{KeptBirths}
use Rattle.table_image.proofs.lawful.births.births_closed.Goals as goal

where_le : (b : Bool) (k : ℕ) → cond b k 0 ≤ k
where_le true k = omega arith
where_le false k = omega arith

pub overflow_add-births : goal.overflow_add-births
overflow_add-births c =
    let within : c.loop-entry.entry-index < length c.args.kept.now = c.loop-entry-test.true in
    let le = sum_by_more_le_part (λ (b : KeptBirths). cond (b.number == c.args.number) b.count 0) (λ (b : KeptBirths). b.count) c.args.kept.now c.loop-entry.entry-index (record { number = 0; count = 0 }) within (λ b. where_le (b.number == c.args.number) b.count) in
    record { fits = omega (arith, le, c.requires, c.loop-entry.invariant) }
