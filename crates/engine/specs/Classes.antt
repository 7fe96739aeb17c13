-- Classifying frames by their opcodes.
use Rattle.std.specs.Prelude.{ℕ, ◌==◌, ◌||◌, Bool, if◌then◌else◌}
use Rattle.wire.specs.declared.opcode.TheConstants.{FORGET, INIT, INTERRUPT, DESTROY, BATCH_FORGET}
use Rattle.engine.specs.declared.classes.Class.{Class}
use Rattle.engine.specs.declared.classes.Class.TheVariants.{Ignored, Unexpected, InitFrame, DestroyFrame, Asking}

-- opcodes that are never answered
abbrev pub is_unanswered : ℕ → Bool
is_unanswered opcode = opcode == FORGET || opcode == INTERRUPT || opcode == BATCH_FORGET

-- Until a version is agreed on, INIT is handled, and everything else that gets a reply is unexpected; afterwards INIT is
-- unexpected.
abbrev pub class : (agreed : Bool) → ℕ → Class
class agreed opcode =
    if opcode == INIT then (if agreed then Unexpected else InitFrame) else
    if agreed then (if opcode == DESTROY then DestroyFrame else Asking) else
    if is_unanswered opcode then Ignored else Unexpected
