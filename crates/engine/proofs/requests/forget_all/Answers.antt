use Rattle.std.proofs.Common.{List, refl, sym, subst}
use Rattle.wire.specs.declared.pairs.ForgetOne.{ForgetOne}
use Rattle.engine.specs.Reference.{ForgetsAll}
use Rattle.engine.proofs.requests.forget_all.Goals as goal

pub loop-lookups-init : goal.loop-lookups-init
loop-lookups-init g c = record {
  onwards = λ end f. f;
  gains = c.attest.ensures c.args.share.now;
  idle = c.requires.idle;
}

pub loop-lookups-preserved : goal.loop-lookups-preserved
loop-lookups-preserved g c =
    let i = c.loop-lookups.invariant in
    let now = g.R.Reach.world c.loop-lookups.table in
    let then' = g.R.Reach.world c.forget.new.self in
    record {
      onwards = λ end f. i.onwards end (subst (λ (ls : List ForgetOne). ForgetsAll g.R.Reach.steps now ls end) (sym c.in-Some.ensures.0) (then', c.forget.ensures.forgets, f));
      gains = g.met.R.Reach.gains_on (g.R.Reach.world c.args.table.now) now then' c.args.share.now c.loop-lookups.share c.forget.new.share i.gains
          c.forget.ensures.gains;
      idle = g.met.R.Reach.forgets_idle now then' c.in-Some.lookups.node c.in-Some.lookups.nlookup i.idle c.forget.ensures.forgets;
    }

pub returns-clause-forgets : goal.returns-clause-forgets
returns-clause-forgets g c =
    let i = c.loop-lookups.invariant in
    let now = g.R.Reach.world c.loop-lookups.table in
    i.onwards now (subst (λ (ls : List ForgetOne). ForgetsAll g.R.Reach.steps now ls now) (sym c.in_default.ensures) refl)
