use Rattle.std.proofs.Common.{ℕ, List, Option, None, ap, ◌∙◌}
use Rattle.engine_streams.specs.Streams.{unused}
use Rattle.mirrord_sessions.proofs.Sockets.{behind_buffer}
use Rattle.mirrord_programs.proofs.workers_socket.link_from.Goals as goal

pub returns : goal.returns
returns c = c.new.ensures ∙ ap (λ (bytes : Option (List ℕ)). unused bytes None) (behind_buffer c.args.input)
