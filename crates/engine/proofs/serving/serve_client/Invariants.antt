use Rattle.std.proofs.Common.{◌≡◌, false, None, []}
use Rattle.table_steps.specs.Kept.{world_of}
use Rattle.wire.specs.Stream.{IsPartial}
use Rattle.table.specs.Gains.{GainsInAll}
use Rattle.engine.specs.Serving.{around, does, traffic}
use Rattle.engine.specs.Tables.{worlds, IsIdle}
use Rattle.engine.specs.Walks.{side, stand, Walks}
use Rattle.engine.proofs.serving.serve_client.Given as goal

-- between two receives the kept bytes begin neither with a whole frame nor with a bad length
abbrev pub invariant-loop : goal.invariant-loop
invariant-loop g l = record {
  partial : IsPartial l.cutter.kept;
  on : l.cutter.stopped ≡ None;
  settings : l.session.settings ≡ l.fn.session.settings;
  idle : IsIdle (world_of l.table);
  gains : GainsInAll (world_of l.initial.table) l.initial.share (world_of l.table) l.share;
  walks : Walks worlds l.fn.session.settings (traffic g.L.LinkIn.receives g.L.LinkOut.sends) (does g.C.Calls.gives g.D.Folders.keeps)
      (side (around l.initial.link l.initial.served (stand (world_of l.initial.table) false)) []) (side (around l.link l.served (stand (world_of l.table) l.session.agreed)) l.cutter.kept);
}
