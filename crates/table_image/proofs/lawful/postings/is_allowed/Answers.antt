use Rattle.std.proofs.Common.{ℕ, ◌+◌, ◌≤◌, ◌≡◌, ◌↔◌, IsTrue, sym, subst, arith}
use Rattle.std.specs.Prelude.{nat_lt, nat_le}
use Rattle.std.proofs.lemmas.Bool.Decides.{nat_tests}
use Rattle.ledger.specs.declared.postings.Posting.{Posting}
use Rattle.ledger.specs.Sums.{IsAllowed}
use Rattle.table_image.specs.Parts.{after_closed}
use Rattle.table_image.proofs.lawful.postings.is_allowed.Goals as goal

one_left : (count given entries : ℕ) → count + given ≡ entries → IsTrue (nat_lt 0 count) ↔ (given + 1 ≤ entries)
one_left count given entries rest = grind (arith, nat_tests)

some_left : (count given entries amount : ℕ) → count + given ≡ entries → IsTrue (nat_le amount count) ↔ (given + amount ≤ entries)
some_left count given entries amount rest = grind (arith, nat_tests)

pub returns-in-Back : goal.returns-in-Back
returns-in-Back c =
    let P : Posting → Type 0 = λ p. IsTrue (nat_lt 0 c.count.result) ↔ IsAllowed (after_closed c.args.kept.now c.args.before.now) p in
    subst P (sym c.in-Back.is) (one_left c.count.result _ _ c.count.ensures)

pub returns-in-Forget : goal.returns-in-Forget
returns-in-Forget c =
    let P : Posting → Type 0 = λ p. IsTrue (nat_le c.from.result c.count-in-Forget.result) ↔ IsAllowed (after_closed c.args.kept.now c.args.before.now) p in
    subst P (sym c.in-Forget.is) (rw c.from.ensures (some_left c.count-in-Forget.result _ _ c.in-Forget.amount c.count-in-Forget.ensures))
