-- The ends of sessions.
use Rattle.std.proofs.Common.{◌≡◌, ◌∙◌, ℕ, Bool, true, false, List, Option, None, Some, IfNone, IfSome, ◌≢◌, inl, inr, sym, ap, subst}
use Rattle.std.proofs.Math.Logic.{∥∥₁_elim}
use Rattle.engine.specs.Links.{Heard, Piece, Ended, Broke}
use Rattle.engine.specs.declared.ends.SessionEnd.{SessionEnd}
use Rattle.engine.specs.declared.ends.SessionEnd.TheVariants as ends
use Rattle.std.specs.Option.{option_map}
use Rattle.crossbeam_channel.specs.Claims.{view}
use Rattle.terms.specs.declared.limits.Limits.{Limits}
use Rattle.terms.specs.declared.settings.Settings.{Settings}
use Rattle.table_shared.specs.Histories.{Made}
use Rattle.engine_turns.specs.Reads.{HasReadAll}
use Rattle.engine_turns.specs.Shown.{queued_of, shown}
use Rattle.engine_threads.specs.Ended.{EndsAs}
use Rattle.engine_threads.specs.Served.{Behaviours, Endpoints, HasServed}
use Rattle.engine_threads.specs.declared.ended.Account.{Account}
use Rattle.engine_turns.specs.Verdicts.{KeepsNone, Progress, Queued, ReadsAs, Stops, and_then}

-- some workers served
abbrev Serves : SessionEnd → Type 0
Serves (ends.Closed rest) = Unit {0}
Serves ends.Destroyed = Unit {0}
Serves (ends.BadLength len) = Unit {0}
Serves ends.LinkBroken = Unit {0}
Serves ends.Memory = Unit {0}
Serves ends.NoWorkers = ⊥

abbrev ServesIn : Option SessionEnd → Type 0
ServesIn None = Unit {0}
ServesIn (Some end) = Serves end

by_stop : (rest : List ℕ) (old : Progress) (end : SessionEnd) (new : Progress) → Stops rest old (Some end) new → Serves end
by_stop rest old (ends.Closed len) new stops = tt
by_stop rest old ends.Destroyed new stops = tt
by_stop rest old (ends.BadLength len) new stops = tt
by_stop rest old ends.LinkBroken new stops = tt
by_stop rest old ends.Memory new stops = tt
by_stop rest old ends.NoWorkers new stops = stops

by_lack : (kept : List ℕ) (end : SessionEnd) → KeepsNone kept (Some end) → Serves end
by_lack kept (ends.Closed len) lacks = tt
by_lack kept ends.Destroyed lacks = tt
by_lack kept (ends.BadLength len) lacks = tt
by_lack kept ends.LinkBroken lacks = tt
by_lack kept ends.Memory lacks = tt
by_lack kept ends.NoWorkers lacks = lacks

by_heard : (heard : Heard) (old : Progress) (end : SessionEnd) (new : Progress) → ReadsAs heard old (Some end) new → Serves end
by_heard (Piece bytes) old end new (inl r) = by_stop r.rest (and_then old bytes) end new r.stops
by_heard (Piece bytes) old end new (inr r) = by_lack old.kept end r.0
by_heard Ended old end new r = subst ServesIn (sym r.0) tt
by_heard Broke old end new r = subst ServesIn (sym r.0) tt

pub some_input : {L : Type 0} (receives : L → Heard → L → Type 0) (from : Option L) (input : Option SessionEnd) (put : List Queued) (last_job : Option Queued) (left : L) → ∥ HasReadAll receives from input put last_job left ∥₁ → input ≢ Some ends.NoWorkers
some_input receives from None put last_job left h none = cc none
some_input receives from (Some end) put last_job left h none = ∥∥₁_elim h (λ (a b : ⊥). absurd a) (λ (k : HasReadAll receives from (Some end) put last_job left).
    let all = k.read.reads in
    subst ServesIn none (by_heard all.ends.heard all.last.so_far end k.last all.ends.reads))

-- a session that has ended like this has no input that ended so
none_as : (input : Option SessionEnd) (is_broken : Bool) (end : SessionEnd) → EndsAs input is_broken end → end ≡ ends.NoWorkers → input ≡ Some ends.NoWorkers
none_as input true end e n = (let both : ends.LinkBroken ≡ ends.NoWorkers = sym e ∙ n in absurd (cc both))
none_as (Some over) false end e n = ap (λ (x : SessionEnd). Some x) (sym e ∙ n)
none_as None false end e n = absurd e

-- some workers served, or memory was refused
pub never_none : {I O C : Type 0} (by : Behaviours I O C) (limits : Limits) (settings : Settings) (given back : Endpoints I O C) (account : Option Account) (end : SessionEnd)
    → IfNone account (end ≡ ends.Memory) → IfSome account (λ (a : Account). EndsAs a.passed.input a.passed.is_broken end) → IfSome account (λ (a : Account). ∥ ((history : List Made) × HasServed by limits settings a.passed a.sums.totals given back history) ∥₁) → end ≢ ends.NoWorkers
never_none by limits settings given back None end memory ended served none = (let both : ends.Memory ≡ ends.NoWorkers = sym memory ∙ none in cc both)
never_none {I} {O} {C} by limits settings given back (Some a) end memory ended served none = ∥∥₁_elim served (λ (x y : ⊥). absurd x) (λ (k : (history : List Made) × HasServed by limits settings a.passed a.sums.totals given back history).
    some_input by.receives (Some given.link_in) a.passed.input (queued_of (view a.passed.read.value).put) (option_map shown a.passed.last_job.value) back.link_in k.1.ran.reads (none_as a.passed.input a.passed.is_broken end ended none))
