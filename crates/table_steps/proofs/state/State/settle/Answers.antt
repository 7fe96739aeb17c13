use Rattle.std.proofs.Common.{ℕ, ◌≡◌, ap, drop, subst, sym, ◌≤◌}
use Rattle.table_requests.specs.Listed.{InFlight, requests_of}
use Rattle.tree.specs.Places.{at_in}
use Rattle.table_steps.specs.Keeping.{kept_by}
use Rattle.table_steps.specs.Answers.{Answer, Settlement}
use Rattle.table_steps.specs.Entries.{TakesAllBack, untaken_of}
use Rattle.table_steps.specs.Steps.{Settles}
use Rattle.table_steps.specs.Sweeping.{IsNearly}
use Rattle.table_steps.specs.Kept.{IsKept, world_of}
use Rattle.table_steps.proofs.Settling.{taken_nearly, settle_kept, Settles-found, Settles-none, settle_room}
use Rattle.table_steps.proofs.state.State.settle.Goals as goal
use Rattle.table_requests.specs.RequestMaps.{most_posted_by}
use Rattle.terms.specs.declared.limits.Counts.TheVariants.{Free}

pub returns-in_default-clause-settles : goal.returns-in_default-clause-settles
returns-in_default-clause-settles c =
    let r : Settlement = record { id = c.answered.inside.id; entries = c.entries.result; taken = c.args.taken } in
    subst (λ (a : Answer). Settles (world_of c.args.self.now) a c.args.taken r (world_of (record c.args.self.now { flights = c.take.new.self }))) c.answered.view_is
    (Settles-none c.args.self.now c.take.new.self (record { id = c.answered.inside.id; given = c.answered.inside.given.items; lost = c.answered.inside.lost; opened = c.answered.inside.opened }) c.args.taken r
    (ap (λ (n : ℕ). record { id = c.answered.inside.id; entries = n; taken = c.args.taken }) c.entries.ensures) c.in_default.ensures.none c.in_default.ensures.same)

pub take_all_back-requires-clause-nearly : goal.take_all_back-requires-clause-nearly
take_all_back-requires-clause-nearly c =
    rw c.as_slice-pins.ensures (taken_nearly c.args.self.now c.requires.kept c.take.new.self c.answered.inside.id c.in-Some.ended c.in-Some.ensures.some c.in-Some.ensures.law)

pub take_all_back-requires-clause-room : goal.take_all_back-requires-clause-room
take_all_back-requires-clause-room c =
    let s = c.args.self.now in
    let some : drop c.untaken_from-from.result c.in-Some.ended.pins.numbers ≡ untaken_of c.args.taken (drop c.in-Some.ended.before c.in-Some.ended.pins.numbers) = rw c.as_slice-pins.ensures at c.untaken_from-from.ensures in
    rw c.as_slice-pins.ensures (settle_room s c.requires.kept c.take.new.self c.answered.inside.id c.in-Some.ended c.in-Some.ensures.some c.in-Some.ensures.law c.untaken_from-from.result c.args.taken some
    (subst (λ (a : Answer). s.limits.counts ≡ Free → most_posted_by ((requests_of s.flights).at a.id) ≤ s.ledger.room) (sym c.answered.view_is) c.requires.room))

pub returns-in_default-clause-kept : goal.returns-in_default-clause-kept
returns-in_default-clause-kept c = subst (λ (f : InFlight). IsKept (record c.args.self.now { flights = f })) (sym c.in_default.ensures.same) c.requires.kept

pub returns-clause-settles : goal.returns-clause-settles
returns-clause-settles c =
    let s = c.args.self.now in
    let ended = c.in-Some.ended in
    let from = c.untaken_from-from.result in
    let took = c.take_all_back in
    let r : Settlement = record { id = c.answered.inside.id; entries = c.entries.result; taken = c.args.taken } in
    let back : TakesAllBack (at_in s.tree) s.ledger.made (drop from ended.pins.numbers) (at_in took.new.tree) took.new.ledger.made = rw c.as_slice-pins.ensures at took.ensures.back in
    let nearly : IsNearly (at_in took.new.tree) took.new.ledger.made (kept_by c.take.new.self s.files) ended.pins.numbers = rw c.as_slice-pins.ensures at took.ensures.nearly in
    let some : drop from ended.pins.numbers ≡ untaken_of c.args.taken (drop ended.before ended.pins.numbers) = rw c.as_slice-pins.ensures at c.untaken_from-from.ensures in
    subst (λ (a : Answer). Settles (world_of s) a c.args.taken r (world_of (record s { tree = c.sweep_pins.new.tree; ledger = took.new.ledger; flights = c.take.new.self; counts = took.new.counts; files = c.close.new.files }))) c.answered.view_is
    (Settles-found s c.requires.kept c.take.new.self c.answered.inside.id ended c.in-Some.ensures.some c.in-Some.ensures.law
    (drop from ended.pins.numbers) took.new.tree c.close.new.tree c.sweep_pins.new.tree took.new.ledger c.close.new.files c.untaken_file.result
    back nearly took.ensures.rest c.close.ensures.closed c.close.ensures.swept c.close.ensures.rest c.sweep_pins.ensures.swept c.sweep_pins.ensures.rest c.sweep_pins.ensures.pruned took.new.counts
    c.answered.inside.given.items c.args.taken c.answered.inside.lost c.answered.inside.opened r some c.untaken_file.ensures c.if-lost.false
    (ap (λ (n : ℕ). record { id = c.answered.inside.id; entries = n; taken = c.args.taken }) c.entries.ensures))

pub returns-clause-kept : goal.returns-clause-kept
returns-clause-kept c =
    let s = c.args.self.now in
    let ended = c.in-Some.ended in
    let from = c.untaken_from-from.result in
    let took = c.take_all_back in
    let back : TakesAllBack (at_in s.tree) s.ledger.made (drop from ended.pins.numbers) (at_in took.new.tree) took.new.ledger.made = rw c.as_slice-pins.ensures at took.ensures.back in
    let nearly : IsNearly (at_in took.new.tree) took.new.ledger.made (kept_by c.take.new.self s.files) ended.pins.numbers = rw c.as_slice-pins.ensures at took.ensures.nearly in
    settle_kept s c.requires.kept c.take.new.self c.answered.inside.id ended c.in-Some.ensures.some c.in-Some.ensures.law
    (drop from ended.pins.numbers) took.new.tree c.close.new.tree c.sweep_pins.new.tree took.new.ledger c.close.new.files c.untaken_file.result
    back nearly took.ensures.rest c.close.ensures.closed c.close.ensures.swept c.close.ensures.rest c.sweep_pins.ensures.swept c.sweep_pins.ensures.rest c.sweep_pins.ensures.pruned
    took.new.counts took.ensures.counts
