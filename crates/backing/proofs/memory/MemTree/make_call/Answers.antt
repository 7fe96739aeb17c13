use Rattle.std.proofs.Common.{◌<◌, ◌^◌, List, ap, ◌∙◌, subst, refl, arith, rules}
use Rattle.backing.specs.declared.plans.Plan.{Plan}
use Rattle.backing.specs.Calls.{asked}
use Rattle.backing.specs.Device.{Device}
use Rattle.backing.specs.Entries.{tree_of}
use Rattle.backing.specs.Memory.{Memory, MakesCall, Treated, next_device}
use Rattle.backing.proofs.Calling.{made_call}
use Rattle.backing.proofs.memory.MemTree.make_call.Goals as goal

pub returns : goal.returns
returns c =
    let inside = c.self.inside in
    let told = c.treat-told.result in
    let small : inside.calls < 2 ^ 64 = search rules in
    let device = c.next_fault-fault.ensures ∙ ap (λ (plans : List Plan). next_device plans inside.calls) c.deref.ensures.value in
    let treated = subst (λ (d : Device). Treated (tree_of inside.standing.items) d (asked c.args.call) told (tree_of c.treat-told.new.entries.items)) device c.treat-told.ensures.treated in
    let old : Memory = record { entries = inside.standing.items; made = inside.calls; plans = inside.planned.items; failed = inside.failures } in
    let new : Memory = record { entries = c.treat-told.new.entries.items; made = c.saturating_add-self-inside.result; plans = inside.planned.items; failed = c.count.new.failures } in
    subst (λ (m : Memory). MakesCall m (asked c.args.call) told new) c.self.view_is
    (made_call old new (asked c.args.call) told treated c.self.invariant.tree c.treat-told.ensures.lawful.tree (c.saturating_add-self-inside.ensures ∙ omega arith) refl c.count.ensures)
