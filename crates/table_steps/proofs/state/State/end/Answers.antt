use Rattle.std.proofs.Common.{ℕ, ◌≡◌, Contains, List, length, Bool, Option, Some, None, [], false, refl, sym, ap, ◌∙◌, subst}
use Rattle.std.specs.Prelude.{option_map}
use Rattle.table_requests.specs.declared.data.RequestInFlight.{RequestInFlight as Recorded}
use Rattle.table_requests.specs.declared.data.Given.{Given}
use Rattle.table_requests.specs.Listed.{requests_of}
use Rattle.table_requests.specs.RequestMaps.{is_working}
use Rattle.tree.specs.declared.nodes.Key.{Key}
use Rattle.table_requests.specs.declared.data.Case.{Case}
use Rattle.table_requests.specs.declared.data.Handle.{Handle}
use Rattle.table_requests.specs.declared.data.Want.{Want}
use Rattle.table_requests.specs.declared.data.Want.TheVariants as wants
use Rattle.table_footprints.specs.NewRequests.{footprint_in}
use Rattle.table_footprints.specs.Footprints.{Change, Footprint, Location, Opening, footprint_of, stays}
use Rattle.table_steps.specs.declared.acts.EnteredNames.{EnteredNames as Entered}
use Rattle.table_steps.specs.Keeping.{kept_by}
use Rattle.table_steps.specs.declared.data.Outcome.{Outcome}
use Rattle.std.specs.List.{slice_get}
use Rattle.table_steps.specs.declared.data.Outcome.TheVariants.{Done, Entries, Entry, Failed, Hidden, HiddenMove}
use Rattle.table_steps.specs.declared.state.State.{State}
use Rattle.table_steps.specs.Answers.{Answer}
use Rattle.table_steps.specs.Ending.{AreUnowned, ChangesNames, GivesAll, candidates_in, change_in, MayAlter, MayEnter, MayFill, folders_in, folders_of, is_page, keys_in, with_in}
use Rattle.table_steps.specs.Kept.{IsKept, flight_of, stage_of, world_of}
use Rattle.table_steps.specs.Steps.{Act, Ends, act_of, hiding_at, replacing_at, none_found, one_found, opened_with, page_found}
use Rattle.table_steps.specs.World.{Answered}
use Rattle.table_steps.proofs.Ends.{ends_changed, nothing_changes, nothing_for}
use Rattle.table_steps.proofs.Filling.{ends_given}
use Rattle.table_steps.proofs.Offering.{ended_gave, ends_alone, ends_entry, may_given, may_open}
use Rattle.table_steps.proofs.Marking.{may_hide, may_replace}
use Rattle.table_steps.proofs.Rooted.{are_unowned, folder_leads, may_alter, may_enter, may_fill}
use Rattle.table_steps.proofs.Viewed.{are_kept}
use Rattle.table_steps.proofs.state.State.end.Goals as goal

-- whatever the outcome, nothing is done for the want of a node alone
node_acts : (number : ℕ) (handle : Option Handle) (case : Case) (o : Outcome) → (let d = footprint_of (wants.Node number handle) case in act_of d o ≡ act_of d Failed)
node_acts number handle case Failed = refl
node_acts number handle case Done = refl
node_acts number handle case Entry = refl
node_acts number handle case (Entries found) = refl
node_acts number handle case (Hidden i) = refl
node_acts number handle case (HiddenMove i moved) = refl

pub returns-then-is_node-clause-ends : goal.returns-then-is_node-clause-ends
returns-then-is_node-clause-ends c e =
    let w = world_of c.args.self.now in
    let work = c.args.work in
    let footprint = footprint_in work in
    let node = c.is_node.ensures c.if-is_node.true in
    let bare : footprint.entries ≡ [] = ap (λ (v : Want). (footprint_of v work.case).entries) node.2 in
    let act : act_of footprint c.args.outcome ≡ act_of footprint Failed
    = subst (λ (v : Want). act_of (footprint_of v work.case) c.args.outcome ≡ act_of (footprint_of v work.case) Failed) (sym node.2) (node_acts node.0 node.1 work.case c.args.outcome) in
    let answer : c.give_none.result ≡ record { id = c.args.id; given = nothing_for footprint.entries; lost = false; opened = None } =
    c.give_none.ensures ∙ ap (λ (ks : List Key). let a : Answer = record { id = c.args.id; given = nothing_for ks; lost = false; opened = None } in a) (sym bare) in
    subst (λ (done : Act). Ends w c.args.id (flight_of e.flight) done footprint.entries c.give_none.result w) (sym act)
    (subst (λ (a : Answer). Ends w c.args.id (flight_of e.flight) (act_of footprint Failed) footprint.entries a w) (sym answer)
    (ends_changed w w c.args.id (flight_of e.flight) (ap (λ o. option_map flight_of o) e.here) (ap stage_of e.answered) (act_of footprint Failed) footprint.entries refl refl (nothing_changes w (kept_by c.args.self.now.flights c.args.self.now.files) (are_kept c.args.self.now.flights c.args.self.now.files c.requires.kept.flying c.requires.kept.filed) c.requires.kept.law.reasons)))

pub returns-in-Failed-clause-ends : goal.returns-in-Failed-clause-ends
returns-in-Failed-clause-ends c e =
    let w = world_of c.args.self.now in
    let work = c.args.work in
    let footprint = footprint_in work in
    let entries : keys_in c.acts_of-entries.result.entries ≡ footprint.entries = c.acts_of-entries.ensures.entries in
    let answer : c.give_none-in-Failed.result ≡ record { id = c.args.id; given = nothing_for footprint.entries; lost = false; opened = None } =
    c.give_none-in-Failed.ensures ∙ ap (λ (ks : List Key). let a : Answer = record { id = c.args.id; given = nothing_for ks; lost = false; opened = None } in a) entries in
    subst (λ (o : Outcome). Ends w c.args.id (flight_of e.flight) (act_of footprint o) footprint.entries c.give_none-in-Failed.result w) (sym c.in-Failed.is)
    (subst (λ (a : Answer). Ends w c.args.id (flight_of e.flight) (act_of footprint Failed) footprint.entries a w) (sym answer)
    (ends_changed w w c.args.id (flight_of e.flight) (ap (λ o. option_map flight_of o) e.here) (ap stage_of e.answered) (act_of footprint Failed) footprint.entries refl refl (nothing_changes w (kept_by c.args.self.now.flights c.args.self.now.files) (are_kept c.args.self.now.flights c.args.self.now.files c.requires.kept.flying c.requires.kept.filed) c.requires.kept.law.reasons)))

pub change-requires-clause-may : goal.change-requires-clause-may
change-requires-clause-may c =
    let work = c.args.work in
    subst (λ (change : Change). MayAlter c.args.self.now change) (sym c.acts_of-entries.ensures.change) (may_alter c.args.self.now c.args.id work c.requires.kept c.requires.ending)

pub open_node-opened-requires-clause-may : goal.open_node-opened-requires-clause-may
open_node-opened-requires-clause-may c =
    let work = c.args.work in
    may_open c.args.self.now c.args.id work c.requires.kept c.requires.ending c.change.new.self c.change.ensures.kept c.change.ensures.rest c.acts_of-entries.result.opens c.acts_of-entries.ensures.exclusive

pub returns-in-Done-clause-ends : goal.returns-in-Done-clause-ends
returns-in-Done-clause-ends c e =
    let w = world_of c.args.self.now in
    let mid = c.change.new.self in
    let new = c.open_node-opened.new.self in
    let opened = c.open_node-opened.result in
    let work = c.args.work in
    let footprint = footprint_in work in
    let entries : keys_in c.acts_of-entries.result.entries ≡ footprint.entries = c.acts_of-entries.ensures.entries in
    let answer : c.give_none-in-Done.result ≡ record { id = c.args.id; given = nothing_for footprint.entries; lost = false; opened = opened } =
    c.give_none-in-Done.ensures ∙ ap (λ (ks : List Key). let a : Answer = record { id = c.args.id; given = nothing_for ks; lost = false; opened = opened } in a) entries in
    let changes : ChangesNames w footprint.done (world_of mid) = subst (λ (change : Change). ChangesNames w change (world_of mid)) c.acts_of-entries.ensures.change c.change.ensures.changes in
    let act : Act = record { found = none_found footprint.entries; change = footprint.done; opens = None } in
    let unopened : Answer = record { id = c.args.id; given = nothing_for footprint.entries; lost = false; opened = None } in
    let first = ends_changed w (world_of mid) c.args.id (flight_of e.flight) (ap (λ o. option_map flight_of o) e.here) (ap stage_of e.answered) act footprint.entries refl refl changes in
    let whole = ends_alone w c.args.id (flight_of e.flight) mid new c.change.ensures.kept opened act footprint.entries unopened first refl refl c.acts_of-entries.result.opens c.open_node-opened.ensures.opens in
    subst (λ (o : Outcome). Ends w c.args.id (flight_of e.flight) (act_of footprint o) footprint.entries c.give_none-in-Done.result (world_of new)) (sym c.in-Done.is)
    (subst (λ (a : Answer). Ends w c.args.id (flight_of e.flight) (act_of footprint Done) footprint.entries a (world_of new)) (sym answer)
    (subst (λ (o : Option Opening). Ends w c.args.id (flight_of e.flight) (record act { opens = o }) footprint.entries (record unopened { opened = opened }) (world_of new)) c.acts_of-entries.ensures.exclusive whole))

pub give_entry-answered-requires-clause-may : goal.give_entry-answered-requires-clause-may
give_entry-answered-requires-clause-may c =
    let work = c.args.work in
    subst (λ (ks : List Key). MayEnter c.args.self.now c.args.id ks) (sym c.acts_of-entries.ensures.entries) (may_enter c.args.self.now c.args.id work c.requires.kept c.requires.ending)

pub give_entry-answered-requires-clause-unowned : goal.give_entry-answered-requires-clause-unowned
give_entry-answered-requires-clause-unowned c one =
    let work = c.args.work in
    subst (λ (ks : List Key). AreUnowned c.args.self.now ks) (sym c.acts_of-entries.ensures.entries)
    (are_unowned c.args.self.now c.args.id work c.requires.kept c.requires.ending (sym c.acts_of-entries.ensures.page ∙ one))

pub open_given-opened-requires-clause-may : goal.open_given-opened-requires-clause-may
open_given-opened-requires-clause-may c =
    let work = c.args.work in
    let r = c.give_entry-answered in
    may_given c.args.self.now c.args.id work c.requires.kept c.requires.ending r.new.self r.ensures.files r.ensures.limits r.ensures.promised
    c.acts_of-entries.result.opens c.acts_of-entries.result.entries r.result.0.given r.result.1 c.acts_of-entries.ensures.entered r.ensures.given
    (ended_gave c.args.self.now r.new.self c.args.id c.requires.ending.flight _ _ _ (ap is_working c.requires.ending.answered) (r.ensures.gives c.requires.ending.flight c.requires.ending.here))

pub give_entries-requires-clause-may : goal.give_entries-requires-clause-may
give_entries-requires-clause-may c =
    let work = c.args.work in
    subst (λ (ks : List Key). MayEnter c.args.self.now c.args.id ks) (sym c.acts_of-entries.ensures.entries) (may_enter c.args.self.now c.args.id work c.requires.kept c.requires.ending)

pub give_entries-requires-clause-fill : goal.give_entries-requires-clause-fill
give_entries-requires-clause-fill c page =
    let work = c.args.work in
    subst (λ (ks : List Key). MayFill c.args.self.now c.args.id ks) (sym c.acts_of-entries.ensures.entries)
    (may_fill c.args.self.now c.args.id work c.requires.kept c.requires.ending (sym c.acts_of-entries.ensures.page ∙ page))

pub give_entries-requires-clause-leads : goal.give_entries-requires-clause-leads
give_entries-requires-clause-leads c n h =
    let work = c.args.work in
    let folders : folders_in c.acts_of-entries.result.entries ≡ folders_of (footprint_in work) = c.acts_of-entries.ensures.folders in
    folder_leads c.args.self.now c.args.id work c.requires.kept c.requires.ending n (subst (λ ns. Contains ns n) folders h)

-- the end of a request, given the entries that it gave
ends_by : (s new : State) → IsKept new → (id : ℕ) (x : Recorded) → (requests_of s.flights).at id ≡ Some x → stage_of x.stage ≡ Answered (length x.pins.numbers) None → (keys : List Key) (found : List Bool) (answer : Answer) → answer ≡ record { id = id; given = answer.given; lost = false; opened = None }
    → GivesAll (world_of s) id (flight_of x) keys found answer.given (world_of new)
    → Ends (world_of s) id (flight_of x) (record { found = found; change = stays; opens = None }) keys answer (world_of new)
ends_by s new kept id x here idle keys found answer is gives =
    subst (λ (a : Answer). Ends (world_of s) id (flight_of x) (record { found = found; change = stays; opens = None }) keys a (world_of new)) (sym is)
    (ends_given (world_of s) (world_of new) id (flight_of x) keys found answer.given (kept_by new.flights new.files) (ap (λ o. option_map flight_of o) here) idle (are_kept new.flights new.files kept.flying kept.filed) kept.law.reasons gives)

-- the names are those of the footprint
ends_row : (s new : State) (id : ℕ) (x : Recorded) (entered : Entered) (footprint : Footprint) (found : Bool → List Key → List Bool) (opened other : Option Opening) (answer : Answer) → keys_in entered ≡ footprint.entries → is_page entered ≡ footprint.page → opened ≡ other
    → Ends (world_of s) id (flight_of x) (record { found = found (is_page entered) (keys_in entered); change = stays; opens = opened }) (keys_in entered) answer (world_of new)
    → Ends (world_of s) id (flight_of x) (record { found = found footprint.page footprint.entries; change = stays; opens = other }) footprint.entries answer (world_of new)
ends_row s new id x entered footprint found opened other answer keys page opens ends =
    subst (λ (o : Option Opening). Ends (world_of s) id (flight_of x) (record { found = found footprint.page footprint.entries; change = stays; opens = o }) footprint.entries answer (world_of new)) opens
    (subst (λ (b : Bool). Ends (world_of s) id (flight_of x) (record { found = found b footprint.entries; change = stays; opens = opened }) footprint.entries answer (world_of new)) page
    (subst (λ (ks : List Key). Ends (world_of s) id (flight_of x) (record { found = found (is_page entered) ks; change = stays; opens = opened }) ks answer (world_of new)) keys ends))

pub returns-in-Entry-clause-ends : goal.returns-in-Entry-clause-ends
returns-in-Entry-clause-ends c e =
    let s = c.args.self.now in
    let work = c.args.work in
    let footprint = footprint_in work in
    let w = world_of s in
    let acts = c.acts_of-entries in
    let es : Entered = acts.result.entries in
    let o = acts.result.opens in
    let r = c.give_entry-answered.ensures in
    let mid = c.give_entry-answered.new.self in
    let new = c.open_given-opened.new.self in
    let opened = c.open_given-opened.result in
    let answer : Answer = c.give_entry-answered.result.0 in
    let entered : Option Given = c.give_entry-answered.result.1 in
    let unopened : answer.opened ≡ None = ap (λ (a : Answer). a.opened) r.told in
    let first = ends_by s mid r.kept c.args.id e.flight e.here (ap stage_of e.answered) (keys_in es) (one_found (is_page es) (keys_in es)) answer r.told (r.gives e.flight e.here) in
    let whole = ends_entry w c.args.id (flight_of e.flight) mid new r.kept opened es answer first unopened o entered r.given c.open_given-opened.ensures.opens in
    subst (λ (out : Outcome). Ends w c.args.id (flight_of e.flight) (act_of footprint out) footprint.entries c.with_file.result (world_of new)) (sym c.in-Entry.is)
    (subst (λ (a : Answer). Ends w c.args.id (flight_of e.flight) (act_of footprint Entry) footprint.entries a (world_of new)) (sym c.with_file.ensures)
    (ends_row s new c.args.id e.flight es footprint one_found (with_in o es) (opened_with footprint) (record answer { opened = opened }) acts.ensures.entries acts.ensures.page acts.ensures.entered whole))

pub returns-in-Entries-clause-ends : goal.returns-in-Entries-clause-ends
returns-in-Entries-clause-ends c e =
    let s = c.args.self.now in
    let work = c.args.work in
    let footprint = footprint_in work in
    let w = world_of s in
    let acts = c.acts_of-entries in
    let es : Entered = acts.result.entries in
    let r = c.give_entries.ensures in
    let new = c.give_entries.new.self in
    let found : Bool → List Key → List Bool = λ page keys. page_found page keys c.in-Entries.found in
    subst (λ (out : Outcome). Ends w c.args.id (flight_of e.flight) (act_of footprint out) footprint.entries c.give_entries.result (world_of new)) (sym c.in-Entries.is)
    (ends_row s new c.args.id e.flight es footprint found None None c.give_entries.result acts.ensures.entries acts.ensures.page refl
    (ends_by s new r.kept c.args.id e.flight e.here (ap stage_of e.answered) (keys_in es) (found (is_page es) (keys_in es)) c.give_entries.result r.told (r.gives e.flight e.here)))

-- what is hidden is what the footprint says
hidden_is : (footprint : Footprint) (change : Change) (done : change ≡ footprint.done) (all : List Location) (candidates : all ≡ footprint.candidates) (i : ℕ) (hidden : Change) → hidden ≡ hiding_at change (slice_get all i) → hidden ≡ hiding_at footprint.done (slice_get footprint.candidates i)
hidden_is footprint change done all candidates i hidden is =
    is ∙ (ap (λ (d : Change). hiding_at d (slice_get all i)) done ∙ ap (λ (ls : List Location). hiding_at footprint.done (slice_get ls i)) candidates)

pub change-requires-in-Hidden-clause-may : goal.change-requires-in-Hidden-clause-may
change-requires-in-Hidden-clause-may c =
    let work = c.args.work in
    let acts = c.acts_of-entries in
    let is = hidden_is (footprint_in work) (change_in acts.result.change) acts.ensures.change (candidates_in acts.result.candidates) acts.ensures.candidates c.in-Hidden.index (change_in c.hide.result) c.hide.ensures in
    subst (λ (change : Change). MayAlter c.args.self.now change) (sym is) (may_hide c.args.self.now c.args.id work c.requires.kept c.requires.ending c.in-Hidden.index)

pub returns-in-Hidden-clause-ends : goal.returns-in-Hidden-clause-ends
returns-in-Hidden-clause-ends c e =
    let w = world_of c.args.self.now in
    let new = c.change-in-Hidden.new.self in
    let work = c.args.work in
    let acts = c.acts_of-entries in
    let footprint = footprint_in work in
    let i = c.in-Hidden.index in
    let entries : keys_in acts.result.entries ≡ footprint.entries = acts.ensures.entries in
    let answer : c.give_none-in-Hidden.result ≡ record { id = c.args.id; given = nothing_for footprint.entries; lost = false; opened = None } =
    c.give_none-in-Hidden.ensures ∙ ap (λ (ks : List Key). let a : Answer = record { id = c.args.id; given = nothing_for ks; lost = false; opened = None } in a) entries in
    let is = hidden_is footprint (change_in acts.result.change) acts.ensures.change (candidates_in acts.result.candidates) acts.ensures.candidates i (change_in c.hide.result) c.hide.ensures in
    let changes : ChangesNames w (hiding_at footprint.done (slice_get footprint.candidates i)) (world_of new) = subst (λ (change : Change). ChangesNames w change (world_of new)) is c.change-in-Hidden.ensures.changes in
    subst (λ (o : Outcome). Ends w c.args.id (flight_of e.flight) (act_of footprint o) footprint.entries c.give_none-in-Hidden.result (world_of new)) (sym c.in-Hidden.is)
    (subst (λ (a : Answer). Ends w c.args.id (flight_of e.flight) (act_of footprint (Hidden i)) footprint.entries a (world_of new)) (sym answer)
    (ends_changed w (world_of new) c.args.id (flight_of e.flight) (ap (λ o. option_map flight_of o) e.here) (ap stage_of e.answered) (act_of footprint (Hidden i)) footprint.entries refl refl changes))

replaced_is : (footprint : Footprint) (change : Change) (done : change ≡ footprint.done) (all : List Location) (candidates : all ≡ footprint.candidates) (i : ℕ) (moved : Bool) (replaced : Change) → replaced ≡ replacing_at change (slice_get all i) moved → replaced ≡ replacing_at footprint.done (slice_get footprint.candidates i) moved
replaced_is footprint change done all candidates i moved replaced is =
    is ∙ (ap (λ (d : Change). replacing_at d (slice_get all i) moved) done ∙ ap (λ (ls : List Location). replacing_at footprint.done (slice_get ls i) moved) candidates)

pub change-requires-in-HiddenMove-clause-may : goal.change-requires-in-HiddenMove-clause-may
change-requires-in-HiddenMove-clause-may c =
    let work = c.args.work in
    let acts = c.acts_of-entries in
    let i = c.in-HiddenMove.candidate in
    let is = replaced_is (footprint_in work) (change_in acts.result.change) acts.ensures.change (candidates_in acts.result.candidates) acts.ensures.candidates i c.in-HiddenMove.moved (change_in c.replace.result) c.replace.ensures in
    subst (λ (change : Change). MayAlter c.args.self.now change) (sym is) (may_replace c.args.self.now c.args.id work c.requires.kept c.requires.ending i c.in-HiddenMove.moved)

pub returns-clause-ends : goal.returns-clause-ends
returns-clause-ends c e =
    let w = world_of c.args.self.now in
    let new = c.change-in-HiddenMove.new.self in
    let work = c.args.work in
    let acts = c.acts_of-entries in
    let footprint = footprint_in work in
    let i = c.in-HiddenMove.candidate in
    let moved = c.in-HiddenMove.moved in
    let entries : keys_in acts.result.entries ≡ footprint.entries = acts.ensures.entries in
    let answer : c.give_none-in-HiddenMove.result ≡ record { id = c.args.id; given = nothing_for footprint.entries; lost = false; opened = None } =
    c.give_none-in-HiddenMove.ensures ∙ ap (λ (ks : List Key). let a : Answer = record { id = c.args.id; given = nothing_for ks; lost = false; opened = None } in a) entries in
    let is = replaced_is footprint (change_in acts.result.change) acts.ensures.change (candidates_in acts.result.candidates) acts.ensures.candidates i moved (change_in c.replace.result) c.replace.ensures in
    let changes : ChangesNames w (replacing_at footprint.done (slice_get footprint.candidates i) moved) (world_of new) = subst (λ (change : Change). ChangesNames w change (world_of new)) is c.change-in-HiddenMove.ensures.changes in
    subst (λ (o : Outcome). Ends w c.args.id (flight_of e.flight) (act_of footprint o) footprint.entries c.give_none-in-HiddenMove.result (world_of new)) (sym c.in-HiddenMove.is)
    (subst (λ (a : Answer). Ends w c.args.id (flight_of e.flight) (act_of footprint (HiddenMove i moved)) footprint.entries a (world_of new)) (sym answer)
    (ends_changed w (world_of new) c.args.id (flight_of e.flight) (ap (λ o. option_map flight_of o) e.here) (ap stage_of e.answered) (act_of footprint (HiddenMove i moved)) footprint.entries refl refl changes))
