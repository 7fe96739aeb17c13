use Rattle.std.proofs.Common.{ap, sym, subst}
use Rattle.tree.specs.Places.{Lookup, at_in}
use Rattle.table_steps.specs.Keeping.{kept_by}
use Rattle.table_steps.specs.Swept.{IsSwept}
use Rattle.table_steps.specs.Sweeping.{HaveReasonsAside}
use Rattle.table_steps.proofs.Reasons.{IsSwept-trans, IsSameRest-trans, aside_all, rest_taken}
use Rattle.table_steps.proofs.sweep.sweep_cut.Goals as goal

pub loop-number-preserved : goal.loop-number-preserved
loop-number-preserved c =
    let kept = kept_by c.args.flights.now c.args.files.now in
    let first = c.args.tree.now in
    let taken = c.take_newly_cut.new.self in
    let last = c.drop_cut.new.tree in
    let same = c.take_newly_cut.ensures.rest in
    record {
      tree = c.drop_cut.ensures.tree;
      aside = c.drop_cut.ensures.aside;
      swept = IsSwept-trans kept (at_in first) (at_in taken) (at_in last) (subst (λ (at : Lookup). IsSwept kept (at_in first) at) (sym (ap at_in same)) c.loop-number.invariant.swept) c.drop_cut.ensures.swept;
      rest = IsSameRest-trans first taken last (rest_taken first c.loop-number.tree taken same c.loop-number.invariant.rest) c.drop_cut.ensures.rest;
    }

pub returns-clause-reasons : goal.returns-clause-reasons
returns-clause-reasons c =
    let kept = kept_by c.args.flights.now c.args.files.now in
    let same = c.in_default.ensures.rest in
    aside_all (at_in c.take_newly_cut.new.self) kept c.args.but c.loop-number.tree.newly_cut c.in_default.ensures.none
    (subst (λ (at : Lookup). HaveReasonsAside at kept c.args.but c.loop-number.tree.newly_cut) (sym (ap at_in same)) c.loop-number.invariant.aside)
