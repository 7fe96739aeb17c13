-- The invariants of a ledger.
use Rattle.std.specs.Prelude.{ℕ, ◌≡◌, ◌+◌, ◌≤◌, All, Vec, sum_by, true, vec_len, vec_capacity}
use Rattle.std.specs.declared.alloc.Global.{Global}
use Rattle.ledger.specs.declared.births.KeptBirths.{KeptBirths}
use Rattle.ledger.specs.declared.postings.Posting.{Posting}
use Rattle.ledger.specs.declared.shares.Totals.{Totals}
use Rattle.ledger.specs.Births.{AreTallied, IsRising}
use Rattle.ledger.specs.Periods.{Periods}
use Rattle.ledger.specs.Shares.{Fits}
use Rattle.ledger.specs.Sums.{IsCarriedOver, IsNeverNegative, is_opening, totals_over}

-- there is that much room, within the limit: for postings, for births, and for the births that the end of the period
-- keeps
pub record HasRoom (postings : Vec Posting Global) (closed births : Vec KeptBirths Global) (limit room places : ℕ) : Type 0 where
  pub within : vec_len postings + room ≤ limit
  pub fits : vec_len postings + room ≤ vec_capacity postings
  pub spares : vec_len births + places ≤ vec_capacity births
  pub keeps : vec_len births + places ≤ vec_capacity closed

-- births and totals agree with the postings
pub record IsLedger (periods : Periods) (postings : Vec Posting Global) (closed births : Vec KeptBirths Global) (totals : Totals) (limit room places : ℕ) : Type 0 where
  pub never_negative : IsNeverNegative periods
  pub carried : IsCarriedOver periods
  pub rising : IsRising births.items
  pub tallied : AreTallied births.items periods
  pub summed : sum_by (λ (b : KeptBirths). b.count) births.items ≡ (totals_over periods).born
  pub totals_are : totals ≡ totals_over periods
  pub small : Fits (totals_over periods)
  pub roomy : HasRoom postings closed births limit room places

-- a period begins: all births are kept, and its postings are all openings
pub record IsNextPeriod (periods : Periods) (opened : Vec Posting Global) (closed births : Vec KeptBirths Global) (limit room places : ℕ) : Type 0 where
  pub openings : All (λ (p : Posting). is_opening p ≡ true) periods.last
  pub rising : IsRising births.items
  pub tallied : AreTallied births.items periods
  pub summed : sum_by (λ (b : KeptBirths). b.count) births.items ≡ periods.totals.born
  pub kept : sum_by (λ (b : KeptBirths). b.count) periods.births ≡ periods.totals.born
  pub small : Fits periods.totals
  pub roomy : HasRoom opened closed births limit room places
