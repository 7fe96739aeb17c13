use Rattle.std.proofs.Common.{arith}
use Rattle.wire.proofs.Replies.{reply_written, reply_only}
use Rattle.wire.proofs.encoding.encode_reply.Goals as goal

pub returns-in_err-reserve-clause-only : goal.returns-in_err-reserve-clause-only
returns-in_err-reserve-clause-only c frame fits is = reply_only c.args.reply.now frame fits is

pub returns-clause-only : goal.returns-clause-only
returns-clause-only c frame fits is = reply_only c.args.reply.now frame fits is

pub returns-clause-reply : goal.returns-clause-reply
returns-clause-reply c answer = reply_written c.args.reply.now answer c.put_reply.ensures.unique c.put_reply.ensures.tells (omega (arith, c.body_len-len.ensures.len, c.body_len-len.ensures.answer answer))
