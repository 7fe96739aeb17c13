use Rattle.std.proofs.Common.{ℕ, ◌≡◌, ◌<◌, ◌+◌, Option, Some, None, option_map, List, length, refl, sym, subst, [], ◌∷◌, lit<, arith}
use Rattle.std.proofs.lemmas.Option.{none-some}
use Rattle.backing.specs.Calls.{Asked}
use Rattle.backing.specs.declared.call.Call.{Call}
use Rattle.ops.specs.declared.script.LastCall.{LastCall}
use Rattle.ops.specs.declared.script.LastCall.TheVariants as endings
use Rattle.backing.specs.Calls.{asked}
use Rattle.engine.specs.Playing.{Playing}
use Rattle.ops.specs.Ahead.{after_hide, calls_after, calls_ending, calls_from, calls_hiding, end_of, plan_ahead, plan_ending, plan_from}
use Rattle.ops.specs.Looking.{plan_looking}
use Rattle.ops.specs.Scripts.{Plan, hide, next_of}
use Rattle.ops.specs.declared.findings.FoundFile.{FoundFile}
use Rattle.paths.specs.Prefixes.{Names}
use Rattle.engine.proofs.Runs.{played_on, played}
use Rattle.engine.proofs.playing.play.Goals as goal

looks_left : (left : List Names) (found : List (Option FoundFile)) (call : Asked) → next_of (plan_looking (record { left = left; found = found })) ≡ Some call → 0 < length left
looks_left [] found call e = absurd (none-some call e)
looks_left (p ∷ ps) found call e = omega arith

hides_left : (p : Names) (left : List Names) (rest : ℕ → Plan) (more : ℕ) (call : Asked) → next_of (hide p left rest) ≡ Some call → 0 < calls_hiding left more
hides_left p [] rest more call e = absurd (none-some call e)
hides_left p (c ∷ cs) rest more call e = omega arith

-- a script that asks for a call has one left
asks_left : (change : Option Call) (ending : LastCall) (call : Asked) → next_of (plan_from change (plan_ending ending)) ≡ Some call → 0 < calls_from change + calls_ending ending
asks_left (Some first) ending call e = omega arith
asks_left None (endings.Look p tells) call e = lit< tt
asks_left None (endings.List p) call e = lit< tt
asks_left None (endings.Read p offset size) call e = lit< tt
asks_left None (endings.ReadLink p) call e = lit< tt
asks_left None (endings.Write p offset piece) call e = lit< tt
asks_left None (endings.Each looks) call e = omega (arith, looks_left looks.left looks.found call e)
asks_left None (endings.Replace s t left) call e = omega arith
asks_left None (endings.Hide hiding) call e = omega (arith, hides_left hiding.path.now hiding.left.now (after_hide hiding.path.now (option_map (λ s. s.now) hiding.source)) (calls_after (option_map (λ s. s.now) hiding.source)) call e)
asks_left None (endings.Set setting) call e = omega arith
asks_left None (endings.Made making) call e = lit< tt
asks_left None (endings.MoveAfter s t candidate) call e = lit< tt
asks_left None (endings.Remove p) call e = lit< tt
asks_left None (endings.Over finding) call e = absurd (none-some call e)

pub loop-call-smaller : goal.loop-call-smaller
loop-call-smaller g c = c.feed.ensures.fewer (asks_left c.loop-call.script.change c.loop-call.script.ending (asked c.in-Some.call) c.in-Some.ensures)

pub loop-call-init : goal.loop-call-init
loop-call-init g c = record { made = []; makes = refl; onwards = λ rest end f. f }

pub loop-call-preserved : goal.loop-call-preserved
loop-call-preserved g c =
    let gives = g.C.Calls.gives in
    let first = plan_ahead c.args.script in
    let now = plan_ahead c.loop-call.script in
    subst (λ (p : Plan). Playing gives c.args.calls.now first c.call-answer.new.self p) (sym c.feed.ensures.plan)
    (played_on gives first now c.args.calls.now c.loop-call.calls c.call-answer.new.self (asked c.in-Some.call) c.call-answer.result c.loop-call.invariant c.in-Some.ensures c.call-answer.ensures)

pub returns : goal.returns
returns g c =
    let first = plan_ahead c.args.script in
    let now = plan_ahead c.loop-call.script in
    played g.C.Calls.gives first now c.args.calls.now c.loop-call.calls (end_of c.into_result.result) c.loop-call.invariant c.in_default.ensures c.into_result.ensures
