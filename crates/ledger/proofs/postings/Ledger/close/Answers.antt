use Rattle.std.proofs.Common.{◌≡◌, [], sym, ap, ◌∙◌, subst, arith}
use Rattle.std.specs.Prelude.{sum_by}
use Rattle.ledger.specs.Postings.{Postings}
use Rattle.ledger.specs.Shares.{Fits}
use Rattle.ledger.specs.Sums.{births_closed, births_of}
use Rattle.ledger.specs.declared.births.KeptBirths.{KeptBirths}
use Rattle.ledger.specs.declared.shares.Totals.{Totals}
use Rattle.ledger.proofs.Closed.{periods_of}
use Rattle.ledger.proofs.postings.Ledger.close.Goals as goal

pub invariant_of-result : goal.invariant_of-result
invariant_of-result c =
    let old = c.self.invariant in
    let bs = c.self.inside.births.items in
    let kept : c.keep_births.new.kept.items ≡ bs = c.keep_births.ensures.kept ∙ c.deref.ensures.value in
    let none : c.clear.new.self.items ≡ [] = c.clear.ensures.items in
    let born : sum_by (λ (b : KeptBirths). b.count) bs ≡ c.self.inside.totals.born = old.summed ∙ ap (λ (t : Totals). t.born) (sym old.totals_are) in
    record {
      openings = λ k d within. absurd (omega (arith, within, c.clear.ensures.len));
      rising = old.rising;
      tallied = λ n. rw (kept, none) (omega arith);
      summed = born;
      kept = rw kept born;
      small = subst (λ (t : Totals). Fits t) (sym old.totals_are) old.small;
      roomy = record {
        within = omega (arith, old.roomy.within, c.len.ensures, c.clear.ensures.len);
        fits = omega (arith, old.roomy.fits, c.len.ensures, c.clear.ensures.len, c.clear.ensures.capacity);
        spares = old.roomy.spares;
        keeps = omega (arith, old.roomy.keeps, c.keep_births.ensures.capacity);
      };
    }

pub returns-clause-births : goal.returns-clause-births
returns-clause-births c = λ n.
    let ps = periods_of c.self.inside.closed_births.items c.self.inside.closed c.self.inside.postings.items in
    let made : ps ≡ c.args.self.made = ap (λ (v : Postings). v.made) c.self.view_is in
    ap (births_closed n) (c.keep_births.ensures.kept ∙ c.deref.ensures.value) ∙ (c.self.invariant.tallied n ∙ ap (births_of n) made)

pub returns-clause-births_once : goal.returns-clause-births_once
returns-clause-births_once c = λ i j d before within.
    let kept = c.keep_births.ensures.kept ∙ c.deref.ensures.value in
    rw kept (let less = c.self.invariant.rising i j d before (rw kept at within) in λ same. absurd (omega (arith, same, less)))
