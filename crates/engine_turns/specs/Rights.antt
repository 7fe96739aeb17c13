-- The right reply to a job: what the rules of a session say about its frame, with the table behind a lock.
use Rattle.std.specs.Prelude.{ℕ, ◌≡◌, Bool, List, Option, Some}
use Rattle.wire.specs.Requests.{opcode_in}
use Rattle.wire.specs.Written.{reply_bytes}
use Rattle.terms.specs.declared.settings.Settings.{Settings}
use Rattle.engine.specs.Classes.{class}
use Rattle.engine.specs.Reference.{HandlesFrame, Offer, Turn}
use Rattle.engine.specs.declared.links.Sent.TheVariants.{Taken}
use Rattle.engine_turns.specs.TableCalls.{Fresh, OnTable, TurnEnd, left_in, known_table}
use Rattle.engine_turns.specs.declared.job.Job.{Job}
use Rattle.engine_queues.specs.declared.left.Left.{Left}

-- what the rules say about a job, with the calls that were made for it and their answers: those on the table are added
-- to what the thread did
pub record IsJobHandled (settings : Settings) (job : Job) (turn : Turn) (before : OnTable) (turn_end : TurnEnd) (after : OnTable) : Type 0 where
  pub frame_is : turn.frame ≡ job.frame.items
  pub now : Bool
  pub meets : HandlesFrame known_table settings job.agreed (class job.agreed (opcode_in turn.frame)) (record { turn_end = Fresh; on_table = before }) turn (record { turn_end = turn_end; on_table = after }) now

-- this reply, which was not offered yet
pub record IsWritten (offer : Offer) (bytes : List ℕ) : Type 0 where
  pub bytes_are : bytes ≡ reply_bytes offer.reply
  pub sent : offer.sent ≡ Taken

pub record IsRight (settings : Settings) (job : Job) (bytes : List ℕ) (left : Option Left) : Type 0 where
  pub turn : Turn
  pub before : OnTable
  pub turn_end : TurnEnd
  pub after : OnTable
  pub handled : IsJobHandled settings job turn before turn_end after
  pub offer : Offer
  pub offered : turn.offer ≡ Some offer
  pub written : IsWritten offer bytes
  pub left_is : left ≡ left_in turn_end
