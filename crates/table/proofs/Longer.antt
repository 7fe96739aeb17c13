-- A ledger after some more postings.
use Rattle.std.proofs.Common.{ℕ, ◌≤◌, ◌≡◌, List, ◌++◌, length, length-append, take, drop, ap, ◌∙◌, sym, arith}
use Rattle.std.proofs.Math.Seq.{take-append_seam, drop-append_seam}
use Rattle.ledger.specs.declared.postings.Posting.{Posting}
use Rattle.ledger.specs.declared.shares.Totals.{Totals}
use Rattle.ledger.specs.Periods.{Periods, continued, up_to}
use Rattle.ledger.specs.Sums.{totals_over}
use Rattle.table_steps.specs.Laws.{Grows}
use Rattle.table_steps.specs.World.{World}

module _ (old new : World) (grows : Grows old new) where
  last_longer : new.postings.last ≡ old.postings.last ++ grows.more
  last_longer = ap (λ (ps : Periods). ps.last) grows.grown

  pub length_longer : length old.postings.last ≤ length new.postings.last
  length_longer = omega (arith, ap {B = ℕ} length last_longer, length-append old.postings.last grows.more)

  take_longer : up_to (length old.postings.last) new.postings ≡ old.postings
  take_longer = ap (up_to (length old.postings.last)) grows.grown ∙ ap (λ (l : List Posting). record old.postings { last = l }) (take-append_seam old.postings.last grows.more)

  pub gained_longer : new.postings ≡ continued old.postings (drop (length old.postings.last) new.postings.last)
  gained_longer = grows.grown ∙ ap (continued old.postings) (sym (ap (drop (length old.postings.last)) last_longer ∙ drop-append_seam old.postings.last grows.more))

  pub totals_longer : (book : Totals) → book ≡ totals_over old.postings → book ≡ totals_over (up_to (length old.postings.last) new.postings)
  totals_longer book is = is ∙ ap totals_over (sym take_longer)
