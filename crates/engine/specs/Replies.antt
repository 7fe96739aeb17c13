-- Replies that a session makes itself.
use Rattle.std.specs.Prelude.{ℕ, ℤ}
use Rattle.wire.specs.declared.reply.Reply.{Reply}
use Rattle.wire.specs.declared.reply.ReplyBody.{ReplyBody}
use Rattle.wire.specs.declared.reply.ReplyBody.TheVariants.{Failed, Done}

-- the reply with only an error
abbrev pub refusal : ℕ → ℤ → Reply
refusal unique errno = record { unique = unique; body = Failed errno }

-- the reply that a request was done, without a body
abbrev pub done_reply : ℕ → Reply
done_reply unique = record { unique = unique; body = Done }

-- A reply that is only a header does not allocate.
abbrev pub TakesMemory : ReplyBody → Type 0
TakesMemory (Failed errno) = ⊥
TakesMemory Done = ⊥
TakesMemory body = Unit {0}
