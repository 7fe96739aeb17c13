use Rattle.std.proofs.Common.{◌≡◌, ◌≤◌, ◌+◌, sym, ap, ◌∙◌, subst}
use Rattle.std.specs.Prelude.{sum_by}
use Rattle.ledger.specs.Periods.{Periods}
use Rattle.ledger.specs.Sums.{carried_by}
use Rattle.ledger.specs.Postings.{Postings}
use Rattle.ledger.specs.Shares.{Fits}
use Rattle.ledger.specs.declared.shares.Totals.{Totals}
use Rattle.ledger.proofs.Closed.{periods_of}
use Rattle.ledger.proofs.Openings.{begun_never, begun_totals}
use Rattle.ledger.proofs.closing.NextPeriod.begin.Goals as goal

pub invariant_of-result : goal.invariant_of-result
invariant_of-result c =
    let ps = periods_of c.self.inside.closed_births.items c.self.inside.closed c.self.inside.opened.items in
    let made : ps ≡ c.args.self.made = ap (λ (v : Postings). v.made) c.self.view_is in
    let old = c.self.invariant in
    let same = begun_totals ps old.openings in
    record {
      never_negative = begun_never ps old.openings;
      carried = record {
        births = old.kept;
        entered = subst (λ (v : Periods). v.totals.born ≤ v.totals.entries) (sym made) c.requires.entered;
        left = subst (λ (v : Periods). v.totals.backs + v.totals.forgotten + sum_by carried_by v.last ≡ v.totals.entries) (sym made) c.requires.left;
      };
      rising = old.rising;
      tallied = old.tallied;
      summed = old.summed ∙ ap (λ (t : Totals). t.born) (sym same);
      totals_are = sym same;
      small = subst (λ (t : Totals). Fits t) (sym same) old.small;
      roomy = old.roomy;
    }
