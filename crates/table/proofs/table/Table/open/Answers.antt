use Rattle.std.proofs.Common.{sym, subst}
use Rattle.table_steps.specs.World.{AreUndisturbed, World}
use Rattle.table_steps.proofs.StillUndisturbed.{opened_calm}
use Rattle.table.proofs.table.Table.open.Goals as goal

pub attest-requires : goal.attest-requires
attest-requires g c = record {
  kept = c.in_ok-state.ensures.kept;
  undisturbed = subst (λ (w : World). AreUndisturbed w.at w.files w.flights) (sym c.in_ok-state.ensures.opened) (opened_calm c.args.limits);
}
