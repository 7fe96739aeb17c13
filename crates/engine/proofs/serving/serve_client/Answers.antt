use Rattle.std.proofs.Common.{[], false, ap, inl, refl, subst, sym, ◌∙◌, ℕ, List, arith}
use Rattle.table_steps.specs.Kept.{world_of}
use Rattle.wire.specs.Stream.{Cutting, IsPartial}
use Rattle.table.proofs.Gaining.{gains_totals, in_all_on}
use Rattle.engine.specs.Serving.{around, does, traffic}
use Rattle.engine.specs.Tables.{worlds}
use Rattle.engine.specs.Walks.{side, stand}
use Rattle.engine.proofs.Closing.{drained_end, drained_on, heard_end}
use Rattle.engine.proofs.Walking.{piece_on, walks_from}
use Rattle.engine.proofs.serving.serve_client.Goals as goal

pub loop-init : goal.loop-init
loop-init g c =
    let empty = ap (λ (k : Cutting). k.kept) c.new-cutter.ensures in
    record {
      partial = subst (λ (k : List ℕ). IsPartial k) (sym empty) (inl (omega arith));
      on = ap (λ (k : Cutting). k.stopped) c.new-cutter.ensures;
      settings = refl;
      idle = c.requires.fresh;
      gains = gains_totals (world_of c.args.table.now) (world_of c.args.table.now) c.args.share.now c.attest.ensures refl;
      walks = walks_from worlds c.args.session.settings (traffic g.L.LinkIn.receives g.L.LinkOut.sends) (does g.C.Calls.gives g.D.Folders.keeps) (around c.args.link.now c.args.served.now (stand (world_of c.args.table.now) false)) c.new-cutter.result.kept empty;
    }

pub returns-in-Some-hear : goal.returns-in-Some-hear
returns-in-Some-hear g c =
    record {
      serves = heard_end worlds c.args.session.settings (traffic g.L.LinkIn.receives g.L.LinkOut.sends) (does g.C.Calls.gives g.D.Folders.keeps) (around c.args.link.now c.args.served.now (world_of c.args.table.now)) (around c.loop.link c.loop.served (stand (world_of c.loop.table) c.loop.session.agreed)) c.loop.cutter.kept
          c.requires.fresh c.loop.invariant.partial c.loop.invariant.walks c.hear.new.link c.loop.cutter c.hear.new.cutter c.in-Some-hear.end refl c.in-Some-hear.ensures;
      gains = c.loop.invariant.gains;
    }

pub returns-in-Some-work_off_frames : goal.returns-in-Some-work_off_frames
returns-in-Some-work_off_frames g c =
    let inv = c.loop.invariant in
    let gains = in_all_on (world_of c.args.table.now) (world_of c.loop.table) (world_of c.work_off_frames.new.table) c.args.share.now c.loop.share c.work_off_frames.new.share inv.gains c.work_off_frames.ensures.gains in
    let heard = c.in-None-hear.ensures in
    let walks = piece_on worlds c.args.session.settings (traffic g.L.LinkIn.receives g.L.LinkOut.sends) (does g.C.Calls.gives g.D.Folders.keeps) (side (around c.args.link.now c.args.served.now (stand (world_of c.args.table.now) false)) []) (around c.loop.link c.loop.served (stand (world_of c.loop.table) c.loop.session.agreed)) c.hear.new.link c.loop.cutter.kept heard.0 c.hear.new.cutter.kept inv.walks inv.partial heard.1 (ap (λ (k : Cutting). k.kept) heard.2) in
    record {
      serves = drained_end worlds c.args.session.settings (traffic g.L.LinkIn.receives g.L.LinkOut.sends) (does g.C.Calls.gives g.D.Folders.keeps) (around c.args.link.now c.args.served.now (world_of c.args.table.now)) (around c.hear.new.link c.loop.served (stand (world_of c.loop.table) c.loop.session.agreed)) (around c.work_off_frames.new.link c.work_off_frames.new.served (stand (world_of c.work_off_frames.new.table) c.work_off_frames.new.self.agreed))
          c.hear.new.cutter.kept c.work_off_frames.new.cutter.kept c.work_off_frames.result c.in-Some-work_off_frames.end c.loop.session.settings inv.settings c.requires.fresh walks c.in-Some-work_off_frames.is c.work_off_frames.ensures.drains;
      gains = gains;
    }

pub loop-preserved : goal.loop-preserved
loop-preserved g c =
    let inv = c.loop.invariant in
    let heard = c.in-None-hear.ensures in
    let walks = piece_on worlds c.args.session.settings (traffic g.L.LinkIn.receives g.L.LinkOut.sends) (does g.C.Calls.gives g.D.Folders.keeps) (side (around c.args.link.now c.args.served.now (stand (world_of c.args.table.now) false)) []) (around c.loop.link c.loop.served (stand (world_of c.loop.table) c.loop.session.agreed)) c.hear.new.link c.loop.cutter.kept heard.0 c.hear.new.cutter.kept inv.walks inv.partial heard.1 (ap (λ (k : Cutting). k.kept) heard.2) in
    let on = drained_on worlds c.args.session.settings (traffic g.L.LinkIn.receives g.L.LinkOut.sends) (does g.C.Calls.gives g.D.Folders.keeps) (side (around c.args.link.now c.args.served.now (stand (world_of c.args.table.now) false)) []) (around c.hear.new.link c.loop.served (stand (world_of c.loop.table) c.loop.session.agreed)) (around c.work_off_frames.new.link c.work_off_frames.new.served (stand (world_of c.work_off_frames.new.table) c.work_off_frames.new.self.agreed))
    c.hear.new.cutter.kept c.work_off_frames.new.cutter.kept c.work_off_frames.result c.loop.session.settings inv.settings walks c.in-None-work_off_frames.is c.work_off_frames.ensures.drains in
    record {
      partial = on.1;
      on = c.in-None-work_off_frames.ensures.on ∙ (ap (λ (k : Cutting). k.stopped) heard.2 ∙ inv.on);
      settings = c.work_off_frames.ensures.settings ∙ inv.settings;
      idle = c.work_off_frames.ensures.idle;
      gains = in_all_on (world_of c.args.table.now) (world_of c.loop.table) (world_of c.work_off_frames.new.table) c.args.share.now c.loop.share c.work_off_frames.new.share inv.gains c.work_off_frames.ensures.gains;
      walks = on.0;
    }
