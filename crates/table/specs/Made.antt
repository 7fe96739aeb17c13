-- How far the last period of a table is.
use Rattle.std.specs.Prelude.{ℕ, ◌+◌, ◌*◌, ◌/◌, ◌<◌, ◌≤◌, ◌≡◌, length}
use Rattle.collections.specs.Sum.{IsSum}
use Rattle.table.specs.declared.periods.Made.{Made}
use Rattle.table_steps.specs.World.{World}

-- the postings of the last period, their limit, and the living nodes except the root
pub record IsMade (w : World) (made : Made) : Type 0 where
  pub postings : made.postings ≡ length w.postings.last
  pub limit : made.limit ≡ w.limits.postings
  pub living : IsSum w.at (λ x. 1) (made.living + 1)

-- it has at least half of the postings that it may have, rounded down, and more than two per node
pub record IsDueBy (made : Made) : Type 0 where
  pub half : made.limit / 2 ≤ made.postings
  pub twice : 2 * made.living < made.postings
