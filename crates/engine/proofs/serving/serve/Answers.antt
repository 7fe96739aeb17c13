use Rattle.std.proofs.Common.{refl}
use Rattle.table_steps.specs.Kept.{world_of}
use Rattle.engine.specs.Serving.{around, does, traffic}
use Rattle.engine.proofs.HiddenKept.{run_keeps}
use Rattle.engine.proofs.serving.serve.Goals as goal

pub returns-clause-serves : goal.returns-clause-serves
returns-clause-serves g c = record {
  left = c.serve_client-end.new.served;
  client = c.serve_client-end.ensures.serves;
  removal = c.remove_leftovers.ensures;
  dirs_are = refl;
}

pub returns-clause-hidden : goal.returns-clause-hidden
returns-clause-hidden g c keeps =
    run_keeps c.args.session.settings (traffic g.L.LinkIn.receives g.L.LinkOut.sends) (does g.C.Calls.gives g.D.Folders.keeps)
    (around c.args.link.now c.args.served.now (world_of c.args.table.now)) (around c.serve_client-end.new.link (record c.serve_client-end.new.served { calls = c.remove_leftovers.new.calls }) (world_of c.serve_client-end.new.table)) c.serve_client-end.result c.attest.ensures keeps (returns-clause-serves g c)
