use Rattle.std.proofs.Common.{◌≡◌, length}
use Rattle.table_steps.specs.Kept.{world_of}
use Rattle.table.specs.Gains.{GainsInAll}
use Rattle.engine.specs.Serving.{around, does, traffic}
use Rattle.engine.specs.Tables.{worlds, IsIdle}
use Rattle.engine.specs.Walks.{side, stand, Walks}
use Rattle.engine.proofs.requests.Session.work_off_frames.Given as goal

-- the frames so far are handled
abbrev pub invariant-loop-frame : goal.invariant-loop-frame
invariant-loop-frame g l = record {
  stopped : l.cutter.stopped ≡ l.initial.cutter.stopped;
  settings : l.self.settings ≡ l.initial.self.settings;
  idle : IsIdle (world_of l.table);
  gains : GainsInAll (world_of l.initial.table) l.initial.share (world_of l.table) l.share;
  walks : Walks worlds l.initial.self.settings (traffic g.L.LinkIn.receives g.L.LinkOut.sends) (does g.C.Calls.gives g.D.Folders.keeps)
      (side (around l.initial.link l.initial.served (stand (world_of l.initial.table) l.initial.self.agreed)) l.initial.cutter.kept)
      (side (around l.link l.served (stand (world_of l.table) l.self.agreed)) l.cutter.kept);
}

-- each frame removes its bytes
abbrev pub decreases-loop-frame : goal.decreases-loop-frame
decreases-loop-frame g l = length l.cutter.kept
