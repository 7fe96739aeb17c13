-- The end of a period.
use Rattle.std.specs.Prelude.{ℕ, ◌≡◌, ◌≢◌, List, AllPairs, Contains, map}
use Rattle.ledger.specs.declared.births.KeptBirths.{KeptBirths}
use Rattle.ledger.specs.declared.postings.Posting.{Posting}
use Rattle.ledger.specs.declared.postings.Posting.TheVariants.{Opening}
use Rattle.ledger.specs.Periods.{Periods}
use Rattle.ledger.specs.Sums.{births_closed, births_of, count_of, entries_of, given_back_of, totals_over}

-- what a period begins with, for a number and generation that is alive
abbrev pub opening_of : Periods → ℕ × ℕ → Posting
opening_of ps a = Opening a.0 a.1 (count_of a.0 a.1 ps)

-- births and totals are kept, and the new period has an opening with what was left of each of these
pub record Closes (old : Periods) (alive : List (ℕ × ℕ)) (new : Periods) : Type 0 where
  pub births : (n : ℕ) → births_closed n new.births ≡ births_of n old
  pub births_once : AllPairs (λ (b c : KeptBirths). b.number ≢ c.number) new.births
  pub totals : new.totals ≡ totals_over old
  pub last : new.last ≡ map (opening_of old) alive

-- these are all numbers and generations of which something may be left, each once
pub record AreAllAlive (ps : Periods) (alive : List (ℕ × ℕ)) : Type 0 where
  pub once : AllPairs (λ (a b : ℕ × ℕ). a ≢ b) alive
  pub others : (n g : ℕ) → (Contains alive (n, g) → ⊥) → given_back_of n g ps ≡ entries_of n g ps
