-- The postings of a step, counted for the worker that made them.
use Rattle.std.proofs.Common.{ℕ, ◌+◌, ◌<◌, ◌≤◌, ◌^◌, ◌≡◌, List, length, get_or, take, ap, ◌∙◌, arith}
use Rattle.std.proofs.lemmas.List.{take_more}
use Rattle.std.proofs.lemmas.List.Sums.{sum_by_more_le}
use Rattle.ledger.specs.declared.postings.Posting.{Posting}
use Rattle.ledger.specs.Periods.{Periods, up_to}
use Rattle.ledger.specs.Shares.{plus, Fits}
use Rattle.ledger.specs.Sums.{totals_by, totals_over}
use Rattle.ledger.proofs.SharesLemmas.{totals_over-push}

-- the totals up to an index, and of the posting there
pub totals_at : (ps : Periods) (k : ℕ) (d : Posting) → k < length ps.last → totals_over (up_to (k + 1) ps) ≡ plus (totals_over (up_to k ps)) (totals_by (get_or ps.last k d))
totals_at ps k d within = ap (λ (l : List Posting). totals_over (record ps { last = l })) (take_more ps.last k d within) ∙ totals_over-push (up_to k ps) (get_or ps.last k d)

pub fits_at : (ps : Periods) (k : ℕ) (d : Posting) → Fits (totals_over ps) → k < length ps.last → Fits (plus (totals_over (up_to k ps)) (totals_by (get_or ps.last k d)))
fits_at ps k d fits within = record {
  born = omega (arith, fits.born, sum_by_more_le (λ p. (totals_by p).born) ps.last k d within);
  entries = omega (arith, fits.entries, sum_by_more_le (λ p. (totals_by p).entries) ps.last k d within);
  backs = omega (arith, fits.backs, sum_by_more_le (λ p. (totals_by p).backs) ps.last k d within);
  forgotten = omega (arith, fits.forgotten, sum_by_more_le (λ p. (totals_by p).forgotten) ps.last k d within);
}
