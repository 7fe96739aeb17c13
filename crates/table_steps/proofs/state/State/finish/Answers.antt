use Rattle.std.proofs.Common.{None, true, ap, subst, sym, ◌≡◌, ◌≤◌}
use Rattle.table_requests.specs.Listed.{InFlight, requests_of}
use Rattle.table_steps.specs.Answers.{Answer, Claim}
use Rattle.table_steps.specs.Kept.{IsKept, world_of}
use Rattle.table_steps.specs.Steps.{Finishes}
use Rattle.table_steps.proofs.Answering.{answer_kept, ending, finishes_found, finishes_none}
use Rattle.table_steps.proofs.state.State.finish.Goals as goal
use Rattle.table_requests.specs.RequestMaps.{most_posted_by}
use Rattle.terms.specs.declared.limits.Counts.TheVariants.{Free}

pub returns-in_default-clause-finishes : goal.returns-in_default-clause-finishes
returns-in_default-clause-finishes c =
    let r : Answer = record { id = c.ticket.inside.id; given = c.new.result.items; lost = true; opened = None } in
    subst (λ (t : Claim). Finishes (world_of c.args.self.now) t.id c.args.outcome r (world_of (record c.args.self.now { flights = c.answer.new.self }))) c.ticket.view_is
    (finishes_none c.args.self.now c.answer.new.self c.ticket.inside.id c.args.outcome r (ap (λ g. record { id = c.ticket.inside.id; given = g; lost = true; opened = None }) c.new.ensures) c.in_default.ensures.none c.in_default.ensures.same)

pub returns-in_default-clause-kept : goal.returns-in_default-clause-kept
returns-in_default-clause-kept c = subst (λ (f : InFlight). IsKept (record c.args.self.now { flights = f })) (sym c.in_default.ensures.same) c.requires.kept

pub end-requires-clause-kept : goal.end-requires-clause-kept
end-requires-clause-kept c =
    answer_kept c.args.self.now c.requires.kept c.answer.new.self c.ticket.inside.id c.in-Some.work c.in-Some.ensures.some c.in-Some.ensures.law

pub end-requires-clause-ending : goal.end-requires-clause-ending
end-requires-clause-ending c =
    ending c.args.self.now c.requires.kept c.answer.new.self c.ticket.inside.id c.in-Some.work c.in-Some.ensures.some c.in-Some.ensures.law
    (subst (λ (t : Claim). c.args.self.now.limits.counts ≡ Free → most_posted_by ((requests_of c.args.self.now.flights).at t.id) ≤ c.args.self.now.ledger.room) (sym c.ticket.view_is) c.requires.room)

pub returns-clause-finishes : goal.returns-clause-finishes
returns-clause-finishes c =
    let e = ending c.args.self.now c.requires.kept c.answer.new.self c.ticket.inside.id c.in-Some.work c.in-Some.ensures.some c.in-Some.ensures.law
    (subst (λ (t : Claim). c.args.self.now.limits.counts ≡ Free → most_posted_by ((requests_of c.args.self.now.flights).at t.id) ≤ c.args.self.now.ledger.room) (sym c.ticket.view_is) c.requires.room) in
    subst (λ (t : Claim). Finishes (world_of c.args.self.now) t.id c.args.outcome c.end.result (world_of c.end.new.self)) c.ticket.view_is
    (finishes_found c.args.self.now c.requires.kept c.answer.new.self c.ticket.inside.id c.in-Some.work c.in-Some.ensures.some c.in-Some.ensures.law c.args.outcome c.end.result (world_of c.end.new.self)
    (c.end.ensures.ends e))
