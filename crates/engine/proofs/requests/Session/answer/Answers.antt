use Rattle.errno.specs.declared.TheConstants.{ENOMEM}
use Rattle.wire.specs.Written.{reply_bytes}
use Rattle.engine.specs.Replies.{refusal}
use Rattle.engine.proofs.Turns.{starved, sent_from}
use Rattle.engine.proofs.requests.Session.answer.Goals as goal

pub returns-in-None-clause-said : goal.returns-in-None-clause-said
returns-in-None-clause-said g c =
    let none = c.in-None.ensures.none in
    starved g.L.Outlet.sends c.args.reply c.args.link.now c.refuse.new.link c.refuse.result none.0
    (sent_from g.L.Outlet.sends c.args.link.now c.offer.new.link c.refuse.new.link (reply_bytes (refusal c.args.reply.unique ENOMEM)) c.refuse.result none.1 c.refuse.ensures)
