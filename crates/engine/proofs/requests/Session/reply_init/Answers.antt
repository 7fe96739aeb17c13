use Rattle.std.proofs.Common.{Bool, ap, subst, ◌∙◌}
use Rattle.errno.specs.declared.TheConstants.{ENOMEM}
use Rattle.wire.specs.Written.{reply_bytes}
use Rattle.wire.specs.declared.reply.ReplyBody.{ReplyBody}
use Rattle.engine.specs.Reference.{agrees}
use Rattle.engine.specs.Replies.{refusal, TakesMemory}
use Rattle.engine.proofs.ByClass.{welcomed, unwelcomed}
use Rattle.engine.proofs.Turns.{sent_from}
use Rattle.engine.proofs.requests.Session.reply_init.Goals as goal

pub returns-in-Some-clause-replies : goal.returns-in-Some-clause-replies
returns-in-Some-clause-replies g c =
    welcomed g.L.Outlet.sends c.args.unique c.args.answer c.args.self.now.agreed c.args.link.now c.offer.new.link c.in-Some.sent c.agrees-self.result
    (subst (λ (b : ReplyBody). g.L.Outlet.sends c.args.link.now (reply_bytes (record { unique = c.args.unique; body = b })) c.in-Some.sent c.offer.new.link) c.init_reply_of-body.ensures c.in-Some.ensures.some)
    (c.agrees-self.ensures ∙ ap (λ (b : Bool). agrees c.args.answer b) c.in-Some.ensures.keeps.agreed)

pub returns-in-None-clause-replies : goal.returns-in-None-clause-replies
returns-in-None-clause-replies g c =
    let none = c.in-None.ensures.none in
    unwelcomed g.L.Outlet.sends c.args.unique c.args.answer c.args.self.now.agreed c.args.link.now c.refuse.new.link c.refuse.result c.agrees-self-in-None.result
    (subst (λ (b : ReplyBody). TakesMemory b) c.init_reply_of-body.ensures none.0)
    (sent_from g.L.Outlet.sends c.args.link.now c.offer.new.link c.refuse.new.link (reply_bytes (refusal c.args.unique ENOMEM)) c.refuse.result none.1 c.refuse.ensures)
    (c.agrees-self-in-None.ensures ∙ ap (λ (b : Bool). agrees c.args.answer b) c.in-None.ensures.keeps.agreed)
