-- Sessions whose calls are calls on a known tree.
use Rattle.std.proofs.Common.{ℕ, ◌++◌, inl, inr}
use Rattle.backing.specs.Calls.{Asked}
use Rattle.backing.specs.Device.{Counted}
use Rattle.backing.specs.declared.call.Answer.{Answer}
use Rattle.engine.specs.Serving.{Gives, Traffic, made_of, turns_of}
use Rattle.engine.proofs.Runs.{chain_append}
use Rattle.engine.specs.declared.ends.SessionEnd.{SessionEnd}
use Rattle.terms.specs.declared.terms.Terms.{Terms}
use Rattle.engine.specs.Known.{KnownRun}
use Rattle.engine.proofs.KnownRuns.{known_run}
use Rattle.mirrord_sessions.specs.Known.{KnownCalls, ServesKnown}
use Rattle.mirrord_sessions.specs.Sessions.{calls_made, IsServed, ServesLink}

known_calls_made : {L C : Type 0} (terms : Terms) (link : Traffic L) (calls : KnownCalls C)
    → ((old new : C) (call : Asked) (answer : Answer) → calls.gives old call answer new → Counted calls.limit (calls.tree old) (calls.faults old) call answer (calls.tree new) (calls.faults new))
    → (first left : C) (old : L) (over : SessionEnd) (new : L) (served : IsServed terms link calls.gives first left old over new) → KnownRun calls.limit calls.tree calls.faults first (calls_made served) left
known_calls_made terms link calls knows first left old over new served =
    known_run calls.gives calls.limit calls.tree calls.faults knows first left (made_of (turns_of served.run.client.steps) ++ served.run.removal.removals) (chain_append (Gives calls.gives) first served.run.left.calls left (made_of (turns_of served.run.client.steps)) served.run.removal.removals served.run.client.draws.makes served.run.removal.makes)

pub known_served : {L C : Type 0} (terms : Terms) (link : Traffic L) (calls : KnownCalls C)
    → ((old new : C) (call : Asked) (answer : Answer) → calls.gives old call answer new → Counted calls.limit (calls.tree old) (calls.faults old) call answer (calls.tree new) (calls.faults new))
    → (first left : C) (old : L) (over : SessionEnd) (new : L) → ServesLink terms link calls.gives first left old over new → ServesKnown terms link calls first left old over new
known_served terms link calls knows first left old over new (inl served) = inl (record { served = served; known = known_calls_made terms link calls knows first left old over new served })
known_served terms link calls knows first left old over new (inr none) = inr none
