use Rattle.std.specs.Prelude.{Some, vec_len}
use Rattle.crossbeam_channel.specs.Ends.{sends_on}
use Rattle.engine_threads.proofs.serving.serve_opened.Given as goal

-- the session's own queues, links and directories
abbrev pub ghosts-serve_prepared-S-Source : goal.ghosts-serve_prepared-S-Source
ghosts-serve_prepared-S-Source g a = record { jobs = Some (sends_on a.prepared.senders.jobs); parted = vec_len a.given.calls; heard_from = Some a.given.link_in }

abbrev pub ghosts-serve_prepared-S-Sink : goal.ghosts-serve_prepared-S-Sink
ghosts-serve_prepared-S-Sink g a = record { replies = Some (sends_on a.prepared.senders.replies); senders = vec_len a.given.calls; sent_to = Some a.given.link_out }

abbrev pub ghosts-serve_prepared-S-Workers : goal.ghosts-serve_prepared-S-Workers
ghosts-serve_prepared-S-Workers g a = record { work = Some (sends_on a.prepared.senders.jobs); answers = Some (sends_on a.prepared.senders.replies); settings = Some a.prepared.settings; given = a.given.calls.items }
