use Rattle.std.proofs.Common.{subst}
use Rattle.backing.specs.Calls.{memory_limit}
use Rattle.backing.specs.Memory.{Gives, memory_tree}
use Rattle.engine.specs.Serving.{traffic}
use Rattle.mirrord_sessions.specs.Known.{known_calls, ServesKnown}
use Rattle.terms.specs.declared.terms.Terms.{Terms}
use Rattle.mirrord_sessions.specs.Lines.{Receives, Sends}
use Rattle.mirrord_sessions.specs.Runs.{failed_in}
use Rattle.mirrord_sessions.proofs.Writing.{hex_served}
use Rattle.mirrord_sessions.proofs.runs.serve_new.Goals as goal

pub returns : goal.returns
returns g c =
    hex_served c.args.served c.in-Ok.tree c.serve_known.result.calls c.args.link.now c.serve_known.result.end c.serve_known.new.link c.in-Ok.ensures
    (subst (λ (terms : Terms). ServesKnown terms (traffic Receives Sends) (known_calls Gives memory_limit memory_tree failed_in) c.in-Ok.tree c.serve_known.result.calls c.args.link.now c.serve_known.result.end c.serve_known.new.link) c.unowned-terms.ensures c.serve_known.ensures)
