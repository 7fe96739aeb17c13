use Rattle.std.proofs.Common.{[], ◌∷◌, Bool, None, Some, sym, ◌∙◌, subst}
use Rattle.std.proofs.lemmas.Bool.{false≢true}
use Rattle.table_requests.specs.Listed.{requests_of}
use Rattle.tree.specs.Places.{at_in}
use Rattle.table_steps.specs.Ending.{GivesAll}
use Rattle.table_steps.specs.Kept.{flight_of, flights_in, world_of}
use Rattle.table_steps.specs.Steps.{HasExclusiveHolder}
use Rattle.table_steps.proofs.Filling.{fill_less, gives_one, gives_owned, none_given, owned_recorded, owned_seen, seen_here}
use Rattle.table_steps.proofs.Guarding.{entered_path}
use Rattle.table_steps.proofs.state.State.give_found.Goals as goal

pub returns-then-not-found-clause-gives : goal.returns-then-not-found-clause-gives
returns-then-not-found-clause-gives c f here =
    let s = c.args.self.now in
    let may = c.requires.may in
    let key = c.args.keys.key in
    subst (λ (b : Bool). GivesAll (world_of s) c.args.id (flight_of f) (key ∷ []) (b ∷ []) (None ∷ []) (world_of s)) (sym c.if-not-found.true)
    (none_given s c.args.id may.flight may.here may.answered f here (key ∷ []))

pub returns-then-not-found-clause-more : goal.returns-then-not-found-clause-more
returns-then-not-found-clause-more c rest fill = fill_less c.args.self.now c.args.id c.args.keys.key rest fill

pub returns-then-holds_exclusively-clause-gives : goal.returns-then-holds_exclusively-clause-gives
returns-then-holds_exclusively-clause-gives c f here =
    let s = c.args.self.now in
    let may = c.requires.may in
    let key = c.args.keys.key in
    let owned : HasExclusiveHolder (at_in s.tree) (flights_in (requests_of s.flights)) key = owned_seen (at_in s.tree) (requests_of s.flights) key.parent key.name c.args.folder.now c.requires.leads (c.holds_exclusively.ensures.owned.0 c.if-holds_exclusively.true) in
    subst (λ (b : Bool). GivesAll (world_of s) c.args.id (flight_of f) (key ∷ []) (b ∷ []) (None ∷ []) (world_of s)) (sym c.if-not-found.false)
    (gives_owned (world_of s) c.args.id (flight_of f) key (seen_here s c.args.id may.flight may.here may.answered f here) owned)

pub returns-then-holds_exclusively-clause-more : goal.returns-then-holds_exclusively-clause-more
returns-then-holds_exclusively-clause-more c rest fill = fill_less c.args.self.now c.args.id c.args.keys.key rest fill

pub returns-clause-gives : goal.returns-clause-gives
returns-clause-gives c f here =
    let s = c.args.self.now in
    let key = c.args.keys.key in
    let new = world_of c.give.new.self in
    let free : HasExclusiveHolder (at_in s.tree) (flights_in (requests_of s.flights)) key → ⊥ = λ o.
    false≢true (sym c.if-holds_exclusively.false ∙ c.holds_exclusively.ensures.owned.1 (owned_recorded (at_in s.tree) c.requires.kept.law.tree (requests_of s.flights) key c.args.folder.now c.requires.leads o)) in
    subst (λ (b : Bool). GivesAll (world_of s) c.args.id (flight_of f) (key ∷ []) (b ∷ []) (Some c.give.result ∷ []) new) (sym c.if-not-found.false)
    (gives_one (world_of s) new c.args.id (flight_of f) key c.give.result free (c.give.ensures.enters f here))

pub returns-clause-leads : goal.returns-clause-leads
returns-clause-leads c =
    let s = c.args.self.now in
    let it = c.give.ensures.enters c.requires.may.flight c.requires.may.here in
    entered_path (at_in s.tree) s.ledger.made c.args.keys.key.parent c.args.keys.key.name c.give.result (at_in c.give.new.self.tree) c.give.new.self.ledger.made it.enters c.args.keys.key.parent c.args.folder.now c.requires.leads
