-- The periods of a ledger: what is kept of the closed ones, and the postings of the last one.
use Rattle.std.specs.Prelude.{ℕ, List, [], ◌∷◌, ◌++◌, take}
use Rattle.ledger.specs.declared.births.KeptBirths.{KeptBirths}
use Rattle.ledger.specs.declared.postings.Posting.{Posting}
use Rattle.ledger.specs.declared.shares.Totals.{Totals}
use Rattle.ledger.specs.Shares.{nothing}

pub record Periods : Type 0 where
  -- how often each number was born in the closed periods
  pub births : List KeptBirths
  -- the totals of the closed periods
  pub totals : Totals
  -- the postings of the last period, oldest first
  pub last : List Posting

-- no period is closed, and these are the postings of the first one
abbrev pub unclosed : List Posting → Periods
unclosed ps = record { births = []; totals = nothing; last = ps }

-- with more postings in the last period
abbrev pub continued : Periods → List Posting → Periods
continued ps more = record ps { last = ps.last ++ more }

-- with one more posting
abbrev pub posted : Periods → Posting → Periods
posted ps p = continued ps (p ∷ [])

-- the closed periods, and the first k postings of the last one
abbrev pub up_to : ℕ → Periods → Periods
up_to k ps = record ps { last = take k ps.last }
