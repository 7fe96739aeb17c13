-- A job that was handled: what its frame led to, as its worker knows it.
use Rattle.std.proofs.Common.{◌≡◌, ◌∙◌, ℕ, List, Bool, Option, Some, None, ap, subst}
use Rattle.engine.specs.Classes.{class}
use Rattle.engine.specs.Reference.{HandlesFrame, Offer, Turn}
use Rattle.engine.specs.Walks.{Passes}
use Rattle.engine.specs.declared.bytes.ReplyBytes.{ReplyBytes}
use Rattle.engine.specs.declared.links.Sent.{Sent}
use Rattle.engine.specs.declared.links.Sent.TheVariants.{Taken}
use Rattle.ledger.specs.Shares.{Part}
use Rattle.terms.specs.declared.settings.Settings.{Settings}
use Rattle.wire.specs.Requests.{opcode_in}
use Rattle.engine_turns.specs.ReplyBuffers.{bytes_in}
use Rattle.engine_turns.specs.TableCalls.{GainsListed, Known, OnTable, TurnEnd, known_table}
use Rattle.engine_turns.specs.Turns.{Writes}
use Rattle.engine_turns.specs.declared.reply_buffer.ReplyBuffer.{ReplyBuffer}

-- what is sent is in the buffer
abbrev pub Buffers : ReplyBuffer → List ℕ → Sent → ReplyBuffer → Type 0
Buffers old bytes sent new = (sent ≡ Taken) × (bytes_in new.said ≡ Some bytes)

-- what a new buffer has, by the reply that was offered
pub writes_of : (old new : ReplyBuffer) (said : Option ReplyBytes) (offer : Option Offer) → old.said ≡ None → said ≡ new.said → Passes Buffers old offer new → Writes offer (bytes_in said)
writes_of old new said None fresh same passes = ap bytes_in (same ∙ ap (λ (b : ReplyBuffer). b.said) passes ∙ fresh)
writes_of old new said (Some offer) fresh same passes = (ap bytes_in same ∙ passes.1, passes.0)

abbrev pub known_as : TurnEnd → OnTable → Known
known_as end on = record { turn_end = end; on_table = on }

-- two descriptions of one state
pub known_same : (end end' : TurnEnd) (on on' : OnTable) → end ≡ end' → on ≡ on' → known_as end on ≡ known_as end' on'
known_same end end' on on' ends same = λ i. record { turn_end = ends i; on_table = same i }

-- a frame that was handled from one description of a state to another
pub meets_as : (settings : Settings) (turn : Turn) (agreed now : Bool) (old old' new new' : Known) → old ≡ old' → new ≡ new' → HandlesFrame known_table settings agreed (class agreed (opcode_in turn.frame)) old turn new now
    → HandlesFrame known_table settings agreed (class agreed (opcode_in turn.frame)) old' turn new' now
meets_as settings turn agreed now old old' new new' before after meets =
    subst (λ (w : Known). HandlesFrame known_table settings agreed (class agreed (opcode_in turn.frame)) old' turn w now) after
    (subst (λ (w : Known). HandlesFrame known_table settings agreed (class agreed (opcode_in turn.frame)) w turn new now) before meets)

-- likewise what the share gained
pub gains_as : (old old' new new' : Known) (before after : Part) → old ≡ old' → new ≡ new' → GainsListed old before new after → GainsListed old' before new' after
gains_as old old' new new' before after first last gains =
    subst (λ (w : Known). GainsListed old' before w after) last (subst (λ (w : Known). GainsListed w before new after) first gains)
