use Rattle.std.proofs.Common.{None, refl}
use Rattle.errno.specs.declared.TheConstants.{ENOMEM}
use Rattle.wire.specs.Written.{reply_bytes}
use Rattle.engine.specs.Replies.{refusal}
use Rattle.engine.proofs.Endings.{starved_untaken}
use Rattle.engine.proofs.Turns.{sent_from}
use Rattle.engine.proofs.requests.Session.settle.Goals as goal

pub returns-in-None-clause-replies : goal.returns-in-None-clause-replies
returns-in-None-clause-replies g c =
    let none = c.in-None.ensures.none in
    starved_untaken g.L.Outlet.sends c.args.reply c.args.link.now c.refuse-sent.new.link c.refuse-sent.result none.0
    (sent_from g.L.Outlet.sends c.args.link.now c.offer.new.link c.refuse-sent.new.link (reply_bytes (refusal c.args.reply.unique ENOMEM)) c.refuse-sent.result none.1 c.refuse-sent.ensures)

pub returns-in-Some-clause-replies : goal.returns-in-Some-clause-replies
returns-in-Some-clause-replies g c = record {
  told = record { refused = None; said = c.args.reply.body; said_is = refl; offer = c.in-Some.ensures.some };
  taken_is = c.is_taken-taken.ensures;
}
