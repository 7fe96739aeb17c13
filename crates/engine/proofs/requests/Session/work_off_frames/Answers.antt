use Rattle.std.proofs.Common.{ℕ, ◌≡◌, List, ◌++◌, Some, None, refl, sym, ap, ◌∙◌}
use Rattle.table_steps.specs.Kept.{world_of}
use Rattle.wire.specs.Stream.{Cutting}
use Rattle.table.proofs.Gaining.{gains_totals, in_all_on}
use Rattle.engine.specs.Serving.{around, does, traffic}
use Rattle.engine.specs.Tables.{worlds}
use Rattle.engine.specs.Walks.{side, stand}
use Rattle.engine.proofs.Walking.{frame_on, walks_none}
use Rattle.engine.proofs.requests.Session.work_off_frames.Goals as goal

pub loop-frame-init : goal.loop-frame-init
loop-frame-init g c = record {
  stopped = refl;
  settings = refl;
  idle = c.requires.idle;
  gains = gains_totals (world_of c.args.table.now) (world_of c.args.table.now) c.args.share.now c.attest.ensures refl;
  walks = walks_none worlds c.args.self.now.settings (traffic g.L.LinkIn.receives g.L.LinkOut.sends) (does g.C.Calls.gives g.D.Folders.keeps) (side (around c.args.link.now c.args.served.now (stand (world_of c.args.table.now) c.args.self.now.agreed)) c.args.cutter.now.kept);
}

pub returns-in-Some-clause-drains : goal.returns-in-Some-clause-drains
returns-in-Some-clause-drains g c =
    let inv = c.loop-frame.invariant in
    let frame = rw c.in-Ok-Some.field-0-is at c.in-Ok-Some.ensures.frame in
    let left = ap (λ (k : Cutting). k.kept) c.skip.ensures in
    let handled = rw c.expect_more.ensures at c.handle_frame-over.ensures.handled in
    let front : c.loop-frame.cutter.kept ≡ c.in-Ok-Some.frame.now ++ c.skip.new.self.kept = frame.front ∙ ap (λ (xs : List ℕ). c.in-Ok-Some.frame.now ++ xs) (sym left) in
    record {
      reached = Some c.in-Some.end;
      walks = frame_on worlds c.args.self.now.settings (traffic g.L.LinkIn.receives g.L.LinkOut.sends) (does g.C.Calls.gives g.D.Folders.keeps)
          (side (around c.args.link.now c.args.served.now (stand (world_of c.args.table.now) c.args.self.now.agreed)) c.args.cutter.now.kept)
          (around c.loop-frame.link c.loop-frame.served (stand (world_of c.loop-frame.table) c.loop-frame.self.agreed)) (around c.handle_frame-over.new.link c.handle_frame-over.new.served (stand (world_of c.handle_frame-over.new.table) c.handle_frame-over.new.self.agreed))
          c.loop-frame.cutter.kept c.in-Ok-Some.frame.now c.of-arrived.result.frame.now c.skip.new.self.kept c.handle_frame-over.result (Some c.in-Some.end)
          c.loop-frame.self.settings inv.settings inv.walks front frame.framed (sym c.of-arrived.ensures.frame) c.handle_frame-over.ensures.idle handled c.in-Some.is;
      stops = refl;
    }

pub returns-in-Some-clause-gains : goal.returns-in-Some-clause-gains
returns-in-Some-clause-gains g c = in_all_on (world_of c.args.table.now) (world_of c.loop-frame.table) (world_of c.handle_frame-over.new.table) c.args.share.now c.loop-frame.share c.handle_frame-over.new.share c.loop-frame.invariant.gains c.handle_frame-over.ensures.gains

pub loop-frame-preserved : goal.loop-frame-preserved
loop-frame-preserved g c =
    let inv = c.loop-frame.invariant in
    let frame = rw c.in-Ok-Some.field-0-is at c.in-Ok-Some.ensures.frame in
    let left = ap (λ (k : Cutting). k.kept) c.skip.ensures in
    let handled = rw c.expect_more.ensures at c.handle_frame-over.ensures.handled in
    let front : c.loop-frame.cutter.kept ≡ c.in-Ok-Some.frame.now ++ c.skip.new.self.kept = frame.front ∙ ap (λ (xs : List ℕ). c.in-Ok-Some.frame.now ++ xs) (sym left) in
    record {
      stopped = ap (λ (k : Cutting). k.stopped) c.skip.ensures ∙ inv.stopped;
      settings = c.handle_frame-over.ensures.settings ∙ inv.settings;
      idle = c.handle_frame-over.ensures.idle;
      gains = in_all_on (world_of c.args.table.now) (world_of c.loop-frame.table) (world_of c.handle_frame-over.new.table) c.args.share.now c.loop-frame.share c.handle_frame-over.new.share inv.gains c.handle_frame-over.ensures.gains;
      walks = frame_on worlds c.args.self.now.settings (traffic g.L.LinkIn.receives g.L.LinkOut.sends) (does g.C.Calls.gives g.D.Folders.keeps)
          (side (around c.args.link.now c.args.served.now (stand (world_of c.args.table.now) c.args.self.now.agreed)) c.args.cutter.now.kept)
          (around c.loop-frame.link c.loop-frame.served (stand (world_of c.loop-frame.table) c.loop-frame.self.agreed)) (around c.handle_frame-over.new.link c.handle_frame-over.new.served (stand (world_of c.handle_frame-over.new.table) c.handle_frame-over.new.self.agreed))
          c.loop-frame.cutter.kept c.in-Ok-Some.frame.now c.of-arrived.result.frame.now c.skip.new.self.kept c.handle_frame-over.result None
          c.loop-frame.self.settings inv.settings inv.walks front frame.framed (sym c.of-arrived.ensures.frame) c.handle_frame-over.ensures.idle handled c.in-None.is;
    }
