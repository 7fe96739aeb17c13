use Rattle.engine_turns.specs.Shown.{reading}
use Rattle.engine_turns.proofs.HasRead.{has_begun}
use Rattle.engine_turns.proofs.reader_role.ReaderRole.new.Goals as goal

pub invariant_of-result : goal.invariant_of-result
invariant_of-result g c = record {
  queue = c.requires.queue;
  parts = c.requires.parts;
  none_back = c.requires.none_back;
  read = has_begun g.I.LinkIn.receives g.S.Source.heard_from c.args.link (reading c.args.link c.args.reader) c.requires.from c.requires.fresh;
}
