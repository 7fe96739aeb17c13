use Rattle.std.proofs.Common.{Option, Some, sym, ap, ◌∙◌, subst, arith}
use Rattle.engine.specs.declared.ends.SessionEnd.{SessionEnd}
use Rattle.engine_turns.specs.Shown.{reading}
use Rattle.engine_turns.specs.Reads.{HasRead}
use Rattle.engine_turns.proofs.HasRead.{has_read_on}
use Rattle.engine_turns.proofs.reader_role.ReaderRole.turn.Goals as goal

pub invariant_of-self : goal.invariant_of-self
invariant_of-self g c =
    let s = c.args.self.now in
    let n = c.turn-end.new in
    let now = reading s.link s.reader in
    record {
      queue = s.queue ∙ ap (λ q. Some q) (sym c.turn-end.ensures.queue);
      parts = (let a = s.parts in let b = c.turn-end.ensures.parts in omega arith);
      none_back = c.wait_if_returned.ensures;
      read = has_read_on g.I.LinkIn.receives g.S.Source.heard_from now (reading n.link n.self) c.turn-end.result
          (subst (λ (o : Option SessionEnd). ∥ HasRead g.I.LinkIn.receives g.S.Source.heard_from o now ∥₁) c.in-None.is s.read) c.turn-end.ensures.reads;
    }
