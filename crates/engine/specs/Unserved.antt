-- Requests whose opcodes a session does not serve.
use Rattle.std.specs.Prelude.{◌≡◌, true}
use Rattle.errno.specs.declared.TheConstants.{ENOSYS}
use Rattle.table_steps.specs.World.{World}
use Rattle.terms.specs.declared.settings.Settings.{Settings}
use Rattle.wire.specs.Requests.{opcode_in, unique_in, IsFramed}
use Rattle.wire.specs.declared.reply.ReplyBody.TheVariants.{Failed}
use Rattle.ops.specs.Intents.{is_unserved}
use Rattle.engine.specs.Reference.{Answers, Asks, Turn}
use Rattle.engine.specs.Tables.{worlds}

-- each is answered ENOSYS, whatever its body, and changes nothing
abbrev pub AreUnservedRefused : Type 0
AreUnservedRefused = (settings : Settings) (old : World) (turn : Turn) (new : World) → IsFramed turn.frame → is_unserved settings (opcode_in turn.frame) ≡ true
    → Asks worlds settings old turn new → Answers (unique_in turn.frame) (Failed ENOSYS) old turn new
