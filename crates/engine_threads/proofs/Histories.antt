-- A history in which no begin has a reserved name keeps nodes with hidden marks at reserved names.
use Rattle.std.proofs.Common.{ℕ, ◌==◌, ◌≡◌, Bool, List, [], ◌∷◌, ◌++◌, All, refl, sym, ap, subst}
use Rattle.std.proofs.Math.Logic.{∥∥₁_elim, ∥∥₁_map, ∥∥₁_map₂, ∥∥₁_prop}
use Rattle.std.proofs.lemmas.Bool.{eq-eqb}
use Rattle.std.proofs.lemmas.List.Elements.{All-cons, All-head, All-nil, All-same, All-tail}
use Rattle.table_hiding.specs.Hiding.{KeepsHidden}
use Rattle.table_hiding.proofs.Keeping.{begins_keep, finishes_keep, forgets_keep, opened_keeps, settles_keep}
use Rattle.table_steps.specs.World.{IsLawfulWorld, World, opened_world}
use Rattle.table_steps.specs.declared.data.Begin.TheVariants.{Busy, Go, Refused}
use Rattle.terms.specs.declared.limits.Limits.{Limits}
use Rattle.table_shared.specs.Histories.{IsHistory, Made, calls_by, calls_if, unless_busy}
use Rattle.table_shared.specs.Runs.{Call, IsStep, began, finished, forgot, looked, settled}
use Rattle.engine_threads.proofs.Unreserved.{AreUnreserved, IsUnreservedCall}

-- a begin that had to wait is left out, and does not matter
told_is : (call : Call) → AreUnreserved (unless_busy call) → IsUnreservedCall call
told_is (began unique want (Go ticket)) all = All-head IsUnreservedCall (began unique want (Go ticket)) [] all
told_is (began unique want Busy) all = tt
told_is (began unique want (Refused errno)) all = tt
told_is (finished id outcome told) all = tt
told_is (settled answer taken told) all = tt
told_is (forgot number n told) all = tt
told_is (looked fh told) all = tt

step_keeps : (old new : World) (call : Call) → IsLawfulWorld old → IsLawfulWorld new → KeepsHidden old → IsUnreservedCall call → IsStep old call new → KeepsHidden new
step_keeps old new (began unique want told) lawful lawful' keeps is it = begins_keep old new lawful lawful' keeps unique want told is it
step_keeps old new (finished id outcome told) lawful lawful' keeps is it = finishes_keep old new lawful lawful' keeps id outcome told it
step_keeps old new (settled answer taken told) lawful lawful' keeps is it = settles_keep old new lawful lawful' keeps answer taken told it
step_keeps old new (forgot number n told) lawful lawful' keeps is it = forgets_keep old new lawful lawful' keeps number n told it
step_keeps old new (looked fh told) lawful lawful' keeps is it = subst (λ (w : World). KeepsHidden w) (sym it.1) keeps

begins_lawful : (start : World) (history : List Made) → IsHistory start history → IsLawfulWorld start
begins_lawful start [] run = run
begins_lawful start (made ∷ history) run = run.0

-- the first calls of a list, and those after them
first_of : (calls rest : List Call) → AreUnreserved (calls ++ rest) → AreUnreserved calls
first_of [] rest all = All-nil IsUnreservedCall
first_of (call ∷ calls) rest all =
    All-cons IsUnreservedCall call calls (All-head IsUnreservedCall call (calls ++ rest) all) (first_of calls rest (All-tail IsUnreservedCall call (calls ++ rest) all))

rest_of : (calls rest : List Call) → AreUnreserved (calls ++ rest) → AreUnreserved rest
rest_of [] rest all = all
rest_of (call ∷ calls) rest all = rest_of calls rest (All-tail IsUnreservedCall call (calls ++ rest) all)

keeps_on : (start : World) (history : List Made) → KeepsHidden start → IsHistory start history → ((index : ℕ) → ∥ AreUnreserved (calls_by index history) ∥₁) → ∥ All (λ (made : Made). KeepsHidden made.after) history ∥₁
keeps_on start [] keeps run all = ∣ All-nil (λ (made : Made). KeepsHidden made.after) ∣₁
keeps_on start (made ∷ history) keeps run all =
    let own : calls_if (made.by == made.by) made.call ≡ unless_busy made.call = ap (λ (b : Bool). calls_if b made.call) (eq-eqb made.by made.by refl) in
    let next : ∥ KeepsHidden made.after ∥₁ = ∥∥₁_map (all made.by) (λ (one : AreUnreserved (calls_by made.by (made ∷ history))).
    let told = All-same IsUnreservedCall (unless_busy made.call) (calls_if (made.by == made.by) made.call) (sym own) (first_of (calls_if (made.by == made.by) made.call) (calls_by made.by history) one) in
    step_keeps start made.after made.call run.0 (begins_lawful made.after history run.2) keeps (told_is made.call told) run.1) in
    let rest : ∥ All (λ (made : Made). KeepsHidden made.after) history ∥₁ = ∥∥₁_elim next ∥∥₁_prop (λ (k : KeepsHidden made.after). keeps_on made.after history k run.2
    (λ index. ∥∥₁_map (all index) (λ (one : AreUnreserved (calls_by index (made ∷ history))). rest_of (calls_if (made.by == index) made.call) (calls_by index history) one))) in
    ∥∥₁_map₂ next rest (λ (k : KeepsHidden made.after) (r : All (λ (made : Made). KeepsHidden made.after) history). All-cons (λ (made : Made). KeepsHidden made.after) made history k r)

pub history_keeps : (limits : Limits) (history : List Made) → IsHistory (opened_world limits) history → ((index : ℕ) → ∥ AreUnreserved (calls_by index history) ∥₁) → ∥ All (λ (made : Made). KeepsHidden made.after) history ∥₁
history_keeps limits history run all = keeps_on (opened_world limits) history (opened_keeps limits) run all
