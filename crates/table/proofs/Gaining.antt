-- What several calls add to the ledger and to the share, one after another.
use Rattle.std.proofs.Common.{ℕ, ◌≡◌, List, [], ◌++◌, append_assoc, append-nil, length, drop, sym, ap, ◌∙◌}
use Rattle.std.proofs.Math.Seq.{drop-append_seam, drop-length}
use Rattle.ledger.specs.declared.postings.Posting.{Posting}
use Rattle.ledger.specs.declared.shares.Totals.{Totals}
use Rattle.ledger.specs.Periods.{Periods, continued}
use Rattle.ledger.specs.Shares.{Part, nothing, plus}
use Rattle.ledger.specs.Sums.{totals_by, totals_of, totals_over}
use Rattle.ledger.proofs.SharesLemmas.{added-append, plus-assoc, plus-nothing, totals_over-more}
use Rattle.table_steps.specs.Steps.{ClosesPeriod, gained}
use Rattle.table_steps.specs.World.{IsLawfulWorld, World}
use Rattle.table_steps.proofs.PeriodSums.{period_totals}
use Rattle.table.specs.Gains.{Gains, GainsInAll}

-- ---- in one period

-- nothing was posted
pub gains_same : (old new : World) (before after : Part) → IsLawfulWorld new → new.postings ≡ old.postings → after ≡ before → Gains old before new after
gains_same old new before after lawful e same =
    let last = ap (λ (ps : Periods). ps.last) e in
    let none : drop (length old.postings.last) new.postings.last ≡ [] = ap (drop (length old.postings.last)) last ∙ drop-length old.postings.last in
    record {
      lawful = lawful;
      grows = e ∙ (ap (λ (l : List Posting). record old.postings { last = l }) (sym (append-nil old.postings.last)) ∙ ap (continued old.postings) (sym none));
      share = same ∙ ap (λ (t : Totals). record before { totals = t }) (sym (ap (λ x. plus before.totals (totals_of x)) none ∙ plus-nothing before.totals));
    }

pub gains_on : (old mid new : World) (before between after : Part) → Gains old before mid between → Gains mid between new after → Gains old before new after
gains_on old mid new before between after first next =
    let a = drop (length old.postings.last) mid.postings.last in
    let b = drop (length mid.postings.last) new.postings.last in
    let whole : new.postings ≡ continued old.postings (a ++ b) = next.grows ∙ (ap (λ (ps : Periods). continued ps b) first.grows ∙ ap (λ (l : List Posting). record old.postings { last = l }) (append_assoc old.postings.last a b)) in
    let last : new.postings.last ≡ old.postings.last ++ (a ++ b) = ap (λ (ps : Periods). ps.last) whole in
    let all : drop (length old.postings.last) new.postings.last ≡ a ++ b = ap (drop (length old.postings.last)) last ∙ drop-append_seam old.postings.last (a ++ b) in
    record {
      lawful = next.lawful;
      grows = whole ∙ ap (continued old.postings) (sym all);
      share =
          next.share
          ∙ (ap (λ (p : Part). record p { totals = plus p.totals (totals_of b) }) first.share
          ∙ ap (λ (t : Totals). record before { totals = t }) (sym (plus-assoc before.totals (totals_of a) (totals_of b)) ∙ (ap (plus before.totals) (sym (added-append totals_by a b)) ∙ ap (λ x. plus before.totals (totals_of x)) (sym all))));
    }

-- ---- over periods

pub gains_in_all : (old new : World) (before after : Part) → Gains old before new after → GainsInAll old before new after
gains_in_all old new before after gains = record {
  lawful = gains.lawful;
  more = totals_of (gained old new);
  ledger = ap totals_over gains.grows ∙ totals_over-more old.postings (gained old new);
  share = gains.share;
}

-- no postings in all
pub gains_totals : (old new : World) (share : Part) → IsLawfulWorld new → totals_over new.postings ≡ totals_over old.postings → GainsInAll old share new share
gains_totals old new share lawful same = record {
  lawful = lawful;
  more = nothing;
  ledger = same ∙ sym (plus-nothing (totals_over old.postings));
  share = ap (λ (t : Totals). record share { totals = t }) (sym (plus-nothing share.totals));
}

-- so it is at the end of a period
pub gains_closed : (old new : World) (share : Part) (fewer : ℕ) → IsLawfulWorld new → ClosesPeriod old fewer new → GainsInAll old share new share
gains_closed old new share fewer lawful closes = gains_totals old new share lawful (period_totals old new fewer closes)

pub in_all_on : (old mid new : World) (before between after : Part) → GainsInAll old before mid between → GainsInAll mid between new after → GainsInAll old before new after
in_all_on old mid new before between after first next = record {
  lawful = next.lawful;
  more = plus first.more next.more;
  ledger = next.ledger ∙ (ap (λ (t : Totals). plus t next.more) first.ledger ∙ sym (plus-assoc (totals_over old.postings) first.more next.more));
  share = next.share ∙ (ap (λ (p : Part). record p { totals = plus p.totals next.more }) first.share ∙ ap (λ (t : Totals). record before { totals = t }) (sym (plus-assoc before.totals first.more next.more)));
}
