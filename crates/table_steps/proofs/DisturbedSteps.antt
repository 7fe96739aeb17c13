-- After each step, what the ends of other requests will remove still has no open file.
use Rattle.std.proofs.Common.{ℕ, ◌-◌, ◌≡◌, ◌≢◌, ◌==◌, ◌⊎◌, if◌then◌else◌, Bool, true, false, List, [], ◌∷◌, ◌++◌, Option, Some, None, Contains, length, refl, sym, ap, ◌∙◌, subst, inl, inr, arith}
use Rattle.std.proofs.lemmas.Bool.{cases_eq, cond-false, cond-true, eq-eqb, ne_eqb, false≢true}
use Rattle.std.proofs.lemmas.Option.{none-some, same_Some}
use Rattle.ledger.specs.Periods.{Periods}
use Rattle.paths.specs.Prefixes.{Name, Names}
use Rattle.paths.proofs.PrefixLemmas.{is_prefix-same}
use Rattle.collections.specs.Sum.{IsSum}
use Rattle.collections.proofs.Changing.{part_of_sum, sum_without}
use Rattle.table_files.specs.declared.data.OpenFile.{OpenFile}
use Rattle.table_files.specs.Handles.{Files, IsOpen, of_node}
use Rattle.table_footprints.specs.Asked.{HasPath, IsPrefixAt, IsThere}
use Rattle.table_footprints.specs.Cases.{IsCase, IsFootprint, IsHidingCase, Seen}
use Rattle.table_footprints.specs.Footprints.{AtName, AtNode, Change, Footprint, Location, Opening, closing, cuts, exchanges, footprint_of, hidden_names, hides, moves, names_under, replaces, stays}
use Rattle.table_footprints.specs.Laws.{IsGrounded}
use Rattle.table_footprints.proofs.FootprintLemmas.{are_grounded}
use Rattle.table_footprints.proofs.Members.{any_in, first_in, none_in}
use Rattle.table_requests.specs.declared.data.Case.{Case}
use Rattle.table_requests.specs.declared.data.Case.TheVariants as cases
use Rattle.table_requests.specs.declared.data.Given.{Given}
use Rattle.table_requests.specs.declared.data.Want.{Want}
use Rattle.table_requests.specs.declared.data.Want.TheVariants as wants
use Rattle.tree.specs.declared.nodes.Key.{Key}
use Rattle.tree.specs.declared.nodes.Node.{Node}
use Rattle.tree.specs.Moves.{Stands, Where, at_path}
use Rattle.tree.specs.Places.{Lookup, IsPathOf, IsTree}
use Rattle.tree.proofs.Climbing.{path_same}
use Rattle.tree.proofs.Transfers.{cut_pathless}
use Rattle.table_steps.specs.declared.data.Outcome.{Outcome}
use Rattle.table_steps.specs.declared.data.Outcome.TheVariants.{Done, Entries, Entry, Failed, Hidden, HiddenMove}
use Rattle.table_steps.specs.Answers.{Answer, Claim}
use Rattle.table_steps.specs.Steps.{Alters, Ends, EndsFor, EntersAll, GoesOn, HoldsUp, IsAnswered, IsBadHandle, Leaves, Opens, Takes, act_of, answered, files_without, none_found}
use Rattle.table_steps.specs.Swept.{IsSwept}
use Rattle.table_steps.specs.World.{Answered, AreHeld, AreReady, AreUndisturbed, HaveNodes, IsAtWork, IsClosedAt, IsReady, IsUndisturbed, RequestInFlight, RequestsInFlight, Stage, Work, Working, World, hidden_at, seen_in, with_entry}
use Rattle.table_steps.proofs.Apart.{at_work_more, entry_some}
use Rattle.table_steps.proofs.Disturbing.{if_in, located, there_path, undisturbed_on}
use Rattle.table_steps.proofs.Filing.{still_open}
use Rattle.table_steps.proofs.Guarding.{act_own, lands}
use Rattle.table_steps.proofs.KeptMarks.{mark_altered}
use Rattle.table_steps.proofs.Landing.{KeepsPlaces, backs_keep, entries_keep, path_unswept, rooted_unswept, somewhere, stands_kept, where_swept, written_keeps}
use Rattle.table_steps.proofs.Remaining.{HoldsPrefixes}

-- what all of this relies on in a world
pub record IsSteady (w : World) : Type 0 where
  pub tree : IsTree w.at
  pub ready : AreReady w.at w.flights
  pub held : AreHeld w.at w.flights
  pub nodes : HaveNodes w.at w.files

-- fewer files are open
pub fewer_open : (o : Option ℕ) (files : Files) (n : ℕ) → IsOpen (files_without o files) n → IsOpen files n
fewer_open o files n isopen = record { handle = isopen.handle; file = isopen.file; here = still_open o files isopen.handle isopen.file isopen.here; node = isopen.node }

-- a request in progress after one was removed was in progress before, under another id
other_work : (flights : RequestsInFlight) (id k : ℕ) (o : Option RequestInFlight) (f : RequestInFlight) (work : Work) → ((g : RequestInFlight) → o ≡ Some g → g.stage ≡ Working work → ⊥) → IsAtWork (with_entry flights id o) k f work → (id ≢ k) × IsAtWork flights k f work
other_work flights id k o f work idle at = elim (cases_eq id k) [
  | inl e ↦ absurd (idle f (sym (cond-true (id == k) o (flights k) (eq-eqb id k e)) ∙ at.here) at.working)
  | inr ne ↦ (ne, record { here = sym (cond-false (id == k) o (flights k) (ne_eqb id k ne)) ∙ at.here; working = at.working })
]

abbrev is_at_work : Stage → Bool
is_at_work (Working work) = true
is_at_work (Answered before opened) = false

-- ---- begin

leaves_kept : (at : Lookup) (o : Option ℕ) (new : World) → Leaves at o new → (n : ℕ) (x : Node) → new.at n ≡ Some x → at n ≡ Some x
leaves_kept at None new same n x here = ap (λ (l : Lookup). l n) (sym same) ∙ here
leaves_kept at (Some handle) new sweeps n x here = sweeps.swept.kept n x here

there_kept : (old new : Lookup) → ((n : ℕ) (x : Node) → new n ≡ Some x → old n ≡ Some x) → (l : Location) (n : ℕ) → IsThere new l n → IsThere old l n
there_kept old new kept (AtNode m) n e = e
there_kept old new kept (AtName parent name) n named = (named.0, kept n named.0 named.1, named.2)

leaves_back : (at : Lookup) (o : Option ℕ) (new : World) → Leaves at o new → IsTree new.at → (n : ℕ) (q : Names) → IsPathOf new.at n q → IsPathOf at n q
leaves_back at None new same tree' n q h = subst (λ (l : Lookup). IsPathOf l n q) same h
leaves_back at (Some handle) new sweeps tree' n q h = path_unswept sweeps.kept at new.at tree' sweeps.swept n q h

none_pushed : (folder : ℕ) (names : List Name) (name : Name) → names_under folder (names ++ name ∷ []) ≡ [] → ⊥
none_pushed folder [] name e = cc
none_pushed folder (x ∷ names) name e = cc

none_candidates : (folder number counter : ℕ) → names_under folder (hidden_names number counter 10) ≡ [] → ⊥
unfolding hidden_names
none_candidates folder number counter none = none_pushed folder (hidden_names number counter 9) _ none

hiding_begun : (seen : Seen) (parent : ℕ) (name : Name) (may : Bool) (c : Case) (candidates : List Location) → IsHidingCase seen parent name may c → ((number counter : ℕ) → c ≡ cases.Hiding number counter → candidates ≡ [] → ⊥) → candidates ≡ []
    → (l : Location) → Contains (if may then AtName parent name ∷ [] else []) l → IsClosedAt seen.at seen.files l
hiding_begun seen parent name may cases.Plain candidates fits some none l h =
    let it = if_in may (AtName parent name) l h in
    subst (λ (m : Location). IsClosedAt seen.at seen.files m) it.1 (fits it.0)
hiding_begun seen parent name may cases.Absent candidates fits some none l h = absurd fits
hiding_begun seen parent name may cases.Pathless candidates fits some none l h = absurd fits
hiding_begun seen parent name may cases.Last candidates fits some none l h = absurd fits
hiding_begun seen parent name may (cases.Hiding number counter) candidates fits some none l h = absurd (some number counter refl none)

hidden_begun : (seen : Seen) (want : Want) (c : Case) → IsCase seen want c → (footprint_of want c).candidates ≡ [] → (l : Location) → Contains (hidden_at want) l → IsClosedAt seen.at seen.files l
hidden_begun seen (wants.Node number handle) c fits none l h = absurd (none_in l h)
hidden_begun seen (wants.Name parent name) c fits none l h = absurd (none_in l h)
hidden_begun seen (wants.Remove parent name may) c fits none l h =
    hiding_begun seen parent name may c (footprint_of (wants.Remove parent name may) c).candidates fits
    (λ number counter e gone. none_candidates parent number counter (ap (λ (d : Case). (footprint_of (wants.Remove parent name may) d).candidates) (sym e) ∙ gone)) none l h
hidden_begun seen (wants.Move p a q b keep) c fits none l h =
    hiding_begun seen q b _ c (footprint_of (wants.Move p a q b keep) c).candidates fits
    (λ number counter e gone. none_candidates q number counter (ap (λ (d : Case). (footprint_of (wants.Move p a q b keep) d).candidates) (sym e) ∙ gone)) none l h
hidden_begun seen (wants.Exchange p a q b) c fits none l h = absurd (none_in l h)
hidden_begun seen (wants.Page folder names) c fits none l h = absurd (none_in l h)
hidden_begun seen (wants.Open number access) c fits none l h = absurd (none_in l h)
hidden_begun seen (wants.Create parent name access) c fits none l h = absurd (none_in l h)
hidden_begun seen (wants.Release number fh) c fits none l h = absurd (none_in l h)
hidden_begun seen (wants.Link number parent name) c fits none l h = absurd (none_in l h)

-- the number of the node that is cut by its number
abbrev cut_by : Change → Option ℕ
cut_by stays = None
cut_by (cuts (AtNode number)) = Some number
cut_by (cuts (AtName parent name)) = None
cut_by (moves s t) = None
cut_by (hides l c) = None
cut_by (replaces s t c moved) = None
cut_by (exchanges s t) = None

not_cut : (change : Change) (number : ℕ) → cut_by change ≡ None → change ≡ cuts (AtNode number) → ⊥
not_cut change number none e = none-some number (sym none ∙ ap cut_by e)

-- after the only handle is closed, no file of the node is open
closed_last : (files : Files) (number fh : ℕ) (file : OpenFile) → IsSum files (of_node number) 1 → files fh ≡ Some file → file.number ≡ number → IsOpen (files_without (Some fh) files) number → ⊥
closed_last files number fh file sum here node isopen =
    let weighs : (g : OpenFile) → g.number ≡ number → of_node number g ≡ 1 = λ g e. cond-true (g.number == number) 1 0 (eq-eqb g.number number e) in
    let one = weighs file node in
    let rest : IsSum (files_without (Some fh) files) (of_node number) 0 = sum_without files (of_node number) fh file 1 0 here sum (omega (arith, one)) in
    let part = part_of_sum (files_without (Some fh) files) (of_node number) isopen.handle isopen.file 0 isopen.here rest in
    let more = weighs isopen.file isopen.node in
    absurd (omega (arith, part, more))

cases_file : (o : Option OpenFile) → (o ≡ None) ⊎ ((f : OpenFile) × (o ≡ Some f))
cases_file None = inl refl
cases_file (Some f) = inr (f, refl)

release_closed : (w : World) (number fh : ℕ) (c : Case) → (IsBadHandle w (footprint_of (wants.Release number fh) c) → ⊥) → IsSum w.files (of_node number) 1 → IsOpen (files_without (Some fh) w.files) number → ⊥
release_closed w number fh c usable sum isopen = elim (cases_file (w.files fh)) [
  | inl none ↦ absurd (usable (record { used = closing number fh; asked = refl; unusable = λ u. none-some u.file (sym none ∙ u.here) }))
  | inr (file, here) ↦ elim (cases_eq file.number number) [
    | inl same ↦ closed_last w.files number fh file sum here same isopen
    | inr other ↦ absurd (usable (record { used = closing number fh; asked = refl; unusable = λ u. other (ap (λ (g : OpenFile). g.number) (same_Some file u.file (sym here ∙ u.here)) ∙ u.node) }))
  ]
]

closed_begun : (w : World) (want : Want) (c : Case) → IsCase (seen_in w) want c → (IsBadHandle w (footprint_of want c) → ⊥) → (number : ℕ) → (footprint_of want c).done ≡ cuts (AtNode number) → IsOpen (files_without (footprint_of want c).closes w.files) number → ⊥
closed_begun w (wants.Node n handle) c fits usable number e isopen = not_cut stays number refl e
closed_begun w (wants.Name parent name) c fits usable number e isopen = not_cut stays number refl e
closed_begun w (wants.Remove parent name may) c fits usable number e isopen = not_cut (cuts (AtName parent name)) number refl e
closed_begun w (wants.Move p a q b keep) c fits usable number e isopen = not_cut (moves (AtName p a) (AtName q b)) number refl e
closed_begun w (wants.Exchange p a q b) c fits usable number e isopen = not_cut (exchanges (AtName p a) (AtName q b)) number refl e
closed_begun w (wants.Page folder names) c fits usable number e isopen = not_cut stays number refl e
closed_begun w (wants.Open n access) c fits usable number e isopen = not_cut stays number refl e
closed_begun w (wants.Create parent name access) c fits usable number e isopen = not_cut stays number refl e
closed_begun w (wants.Release n fh) cases.Plain fits usable number e isopen = not_cut stays number refl e
closed_begun w (wants.Release n fh) cases.Absent fits usable number e isopen = absurd fits
closed_begun w (wants.Release n fh) cases.Pathless fits usable number e isopen = not_cut stays number refl e
closed_begun w (wants.Release n fh) cases.Last fits usable number e isopen =
    let same : n ≡ number = same_Some n number (ap cut_by e) in
    release_closed w n fh cases.Last usable fits.1.one (subst (λ k. IsOpen (files_without (Some fh) w.files) k) (sym same) isopen)
closed_begun w (wants.Release n fh) (cases.Hiding k counter) fits usable number e isopen = absurd fits
closed_begun w (wants.Link n parent name) c fits usable number e isopen = not_cut stays number refl e

marked_begun : (w : World) (want : Want) (c : Case) → IsCase (seen_in w) want c → (number : ℕ) → (footprint_of want c).done ≡ cuts (AtNode number) → (x : Node) → w.at number ≡ Some x → x.hidden ≡ true
marked_begun w (wants.Node n handle) c fits number e x here = absurd (not_cut stays number refl e)
marked_begun w (wants.Name parent name) c fits number e x here = absurd (not_cut stays number refl e)
marked_begun w (wants.Remove parent name may) c fits number e x here = absurd (not_cut (cuts (AtName parent name)) number refl e)
marked_begun w (wants.Move p a q b keep) c fits number e x here = absurd (not_cut (moves (AtName p a) (AtName q b)) number refl e)
marked_begun w (wants.Exchange p a q b) c fits number e x here = absurd (not_cut (exchanges (AtName p a) (AtName q b)) number refl e)
marked_begun w (wants.Page folder names) c fits number e x here = absurd (not_cut stays number refl e)
marked_begun w (wants.Open n access) c fits number e x here = absurd (not_cut stays number refl e)
marked_begun w (wants.Create parent name access) c fits number e x here = absurd (not_cut stays number refl e)
marked_begun w (wants.Release n fh) cases.Plain fits number e x here = absurd (not_cut stays number refl e)
marked_begun w (wants.Release n fh) cases.Absent fits number e x here = absurd fits
marked_begun w (wants.Release n fh) cases.Pathless fits number e x here = absurd (not_cut stays number refl e)
marked_begun w (wants.Release n fh) cases.Last fits number e x here =
    let same : n ≡ number = same_Some n number (ap cut_by e) in
    ap (λ (y : Node). y.hidden) (same_Some x fits.1.node (sym here ∙ (ap w.at (sym same) ∙ fits.1.here))) ∙ fits.1.hidden
marked_begun w (wants.Release n fh) (cases.Hiding k counter) fits number e x here = absurd fits
marked_begun w (wants.Link n parent name) c fits number e x here = absurd (not_cut stays number refl e)

pub begun_undisturbed : (old new : World) (unique : ℕ) (want : Want) (d : Footprint) (ticket : Claim) → IsFootprint (seen_in old) want d → (IsBadHandle old d → ⊥) → GoesOn old unique want d ticket new → IsSteady old → IsSteady new
    → AreUndisturbed old.at old.files old.flights → AreUndisturbed new.at new.files new.flights
begun_undisturbed old new unique want d ticket is usable goes steady steady' was id f work at =
    let begun : Work = record { want = want; footprint = d; held = goes.held } in
    let g : RequestInFlight = record { unique = unique; stage = Working begun; pins = goes.pins } in
    let files_is : new.files ≡ files_without d.closes old.files = ap (λ (w : World). w.files) goes.new_is in
    let flights_is : new.flights ≡ with_entry old.flights ticket.id (Some g) = ap (λ (w : World). w.flights) goes.new_is in
    let kept = leaves_kept old.at d.closes new goes.leaves in
    let here : IsAtWork (with_entry old.flights ticket.id (Some g)) id f work = subst (λ (fs : RequestsInFlight). IsAtWork fs id f work) flights_is at in
    elim (at_work_more old.flights ticket.id g begun refl id f work here) [
      | inl (e, same, work_is) ↦ subst (λ (v : Work). IsUndisturbed new.at new.files v) work_is (record {
        removal = λ none l hidden n there isopen.
            hidden_begun (seen_in old) want is.case is.fits (ap (λ (x : Footprint). x.candidates) (sym is.footprint) ∙ none) l hidden n (there_kept old.at new.at kept l n there)
            (fewer_open d.closes old.files n (subst (λ (fs : Files). IsOpen fs n) files_is isopen));
        release = λ number cut n there isopen.
            closed_begun old want is.case is.fits (subst (λ (x : Footprint). IsBadHandle old x → ⊥) is.footprint usable) number (ap (λ (x : Footprint). x.done) (sym is.footprint) ∙ cut)
            (subst (λ (x : Footprint). IsOpen (files_without x.closes old.files) number) is.footprint (subst (λ (fs : Files). IsOpen fs number) files_is (subst (λ k. IsOpen new.files k) there isopen)));
        marked = λ number cut z here. marked_begun old want is.case is.fits number (ap (λ (x : Footprint). x.done) (sym is.footprint) ∙ cut) z (kept number z here);
      })
      | inr old_at ↦ undisturbed_on old.at new.at old.files new.files f work steady.tree (steady.ready id f work old_at) (steady'.ready id f work at)
          (λ p own prefixes some n leads isopen. (leaves_back old.at d.closes new goes.leaves steady'.tree n p leads, fewer_open d.closes old.files n (subst (λ (fs : Files). IsOpen fs n) files_is isopen)))
          (λ n p leads x here marked z here'. ap (λ (y : Node). y.hidden) (same_Some z x (sym (kept n z here') ∙ here)) ∙ marked)
          (was id f work old_at)
    ]

-- ---- settle and forget

back_kept : (kept : ℕ → Bool) (old mid new : Lookup) → IsTree old → IsTree new → KeepsPlaces old mid → IsSwept kept mid new → (n : ℕ) (x : Node) → old n ≡ Some x → (q : Names) → IsPathOf new n q → IsPathOf old n q
back_kept kept old mid new tree tree' keeps swept n x here q leads =
    let it = somewhere old tree n x here in
    let e = where_swept kept mid new tree' swept n it.0 (stands_kept old mid keeps n it.0 it.1) q leads in
    subst (λ (w : Where). Stands old n w) e it.1

mark_back : (kept : ℕ → Bool) (old mid new : Lookup) → KeepsPlaces old mid → IsSwept kept mid new → (n : ℕ) (x : Node) → old n ≡ Some x → x.hidden ≡ true → (z : Node) → new n ≡ Some z → z.hidden ≡ true
mark_back kept old mid new keeps swept n x here marked z here' =
    let it = keeps.place n x here in
    ap (λ (y : Node). y.hidden) (same_Some z it.0 (sym (swept.kept n z here') ∙ it.1)) ∙ it.3 marked

-- the node of an open file is alive
opened_lives : (w : World) → HaveNodes w.at w.files → (n : ℕ) → IsOpen w.files n → (x : Node) × (w.at n ≡ Some x)
opened_lives w nodes n isopen =
    let it = nodes isopen.handle isopen.file isopen.here in
    (it.node, subst (λ k. w.at k ≡ Some it.node) isopen.node it.here)

pub settled_undisturbed : (old new : World) (id : ℕ) (a : IsAnswered old.flights id) (taken : Bool) → EndsFor old id a taken new → IsSteady old → IsSteady new → AreUndisturbed old.at old.files old.flights → AreUndisturbed new.at new.files new.flights
settled_undisturbed old new id a taken ends steady steady' was k f work at =
    let here = subst (λ (fs : RequestsInFlight). IsAtWork fs k f work) (ap (λ (w : World). w.flights) ends.new_is) at in
    let old_at = (other_work old.flights id k None f work (λ g e. absurd (none-some g e)) here).1 in
    undisturbed_on old.at new.at old.files new.files f work steady.tree (steady.ready k f work old_at) (steady'.ready k f work at)
    (λ p own prefixes some n leads isopen.
    let isopen' = fewer_open _ old.files n (subst (λ (fs : Files). IsOpen fs n) (ap (λ (w : World). w.files) ends.new_is) isopen) in
    let lives = opened_lives old steady.nodes n isopen' in
    (back_kept ends.sweeps.kept old.at ends.mid new.at steady.tree steady'.tree (backs_keep old.at old.postings _ ends.mid new.postings ends.back) ends.sweeps.swept n lives.0 lives.1 p leads, isopen'))
    (λ n p leads x here marked z here'. mark_back ends.sweeps.kept old.at ends.mid new.at (backs_keep old.at old.postings _ ends.mid new.postings ends.back) ends.sweeps.swept n x here marked z here')
    (was k f work old_at)

pub taken_undisturbed : (old new : World) (number amount : ℕ) (x : Node) → old.at number ≡ Some x → Takes old number amount x new → IsSteady old → IsSteady new → AreUndisturbed old.at old.files old.flights → AreUndisturbed new.at new.files new.flights
taken_undisturbed old new number amount x stood takes steady steady' was k f work at =
    let old_at = subst (λ (fs : RequestsInFlight). IsAtWork fs k f work) (ap (λ (w : World). w.flights) takes.new_is) at in
    undisturbed_on old.at new.at old.files new.files f work steady.tree (steady.ready k f work old_at) (steady'.ready k f work at)
    (λ p own prefixes some n leads isopen.
    let isopen' = subst (λ (fs : Files). IsOpen fs n) (ap (λ (w : World). w.files) takes.new_is) isopen in
    let lives = opened_lives old steady.nodes n isopen' in
    (back_kept takes.sweeps.kept old.at _ new.at steady.tree steady'.tree (written_keeps old.at number x (record x { count = x.count - amount }) stood refl (λ marked. marked)) takes.sweeps.swept n lives.0 lives.1 p leads, isopen'))
    (λ n p leads y here marked z here'. mark_back takes.sweeps.kept old.at _ new.at (written_keeps old.at number x (record x { count = x.count - amount }) stood refl (λ mark. mark)) takes.sweeps.swept n y here marked z here')
    (was k f work old_at)

-- ---- finish

act_cases : (d : Footprint) (outcome : Outcome) → ((act_of d outcome).change ≡ stays) ⊎ ((act_of d outcome).found ≡ none_found d.entries)
act_cases d Failed = inl refl
act_cases d Done = inr refl
act_cases d Entry = inl refl
act_cases d (Entries found) = inl refl
act_cases d (Hidden i) = inr refl
act_cases d (HiddenMove i moved) = inr refl

then_some : {X : Type 0} (b : Bool) (x : Option X) (y : X) → (if b then x else None) ≡ Some y → x ≡ Some y
then_some true x y e = e
then_some false x y e = absurd (none-some y e)

else_some : {X : Type 0} (b : Bool) (x : Option X) (y : X) → (if b then None else x) ≡ Some y → x ≡ Some y
else_some true x y e = absurd (none-some y e)
else_some false x y e = e

opens_of : (d : Footprint) (outcome : Outcome) (o : Opening) → (act_of d outcome).opens ≡ Some o → (d.opens ≡ Some o) × (((act_of d outcome).change ≡ stays) ⊎ ((act_of d outcome).change ≡ d.done))
opens_of d Failed o e = absurd (none-some o e)
opens_of d Done o e = (then_some (length d.entries == 0) d.opens o e, inr refl)
opens_of d Entry o e = (else_some (length d.entries == 0) d.opens o e, inl refl)
opens_of d (Entries found) o e = absurd (none-some o e)
opens_of d (Hidden i) o e = absurd (none-some o e)
opens_of d (HiddenMove i moved) o e = absurd (none-some o e)

opens_shared : (want : Want) (c : Case) (o : Opening) → (footprint_of want c).opens ≡ Some o → Contains (footprint_of want c).shared o.target × ((footprint_of want c).done ≡ stays)
opens_shared (wants.Node number handle) c o e = absurd (none-some o e)
opens_shared (wants.Name parent name) c o e = absurd (none-some o e)
opens_shared (wants.Remove parent name may) c o e = absurd (none-some o e)
opens_shared (wants.Move p a q b keep) c o e = absurd (none-some o e)
opens_shared (wants.Exchange p a q b) c o e = absurd (none-some o e)
opens_shared (wants.Page folder names) c o e = absurd (none-some o e)
opens_shared (wants.Open number access) c o e =
    let opening : Opening = record { target = AtNode number; access = access } in
    (subst (λ (x : Opening). Contains (AtNode number ∷ []) x.target) (same_Some opening o e) (first_in (AtNode number) []), refl)
opens_shared (wants.Create parent name access) c o e =
    let opening : Opening = record { target = AtName parent name; access = access } in
    (subst (λ (x : Opening). Contains (AtName parent name ∷ []) x.target) (same_Some opening o e) (first_in (AtName parent name) []), refl)
opens_shared (wants.Release number fh) c o e = absurd (none-some o e)
opens_shared (wants.Link number parent name) c o e = absurd (none-some o e)

none_entered : (owners : RequestsInFlight) (at at' : Lookup) (ps qs : Periods) (keys : List Key) (given : List (Option Given)) → EntersAll owners at ps keys (none_found keys) given at' qs → at' ≡ at
none_entered owners at at' ps qs [] [] same = same.0
none_entered owners at at' ps qs [] (g ∷ given) bad = absurd bad
none_entered owners at at' ps qs (key ∷ keys) [] bad = absurd bad
none_entered owners at at' ps qs (key ∷ keys) (None ∷ given) more = none_entered owners at at' ps qs keys given more
none_entered owners at at' ps qs (key ∷ keys) (Some g ∷ given) bad = absurd bad

-- a file that is open was open before, or is the one that is opened
open_cases : (at : Lookup) (o : Option Opening) (old : World) (opened : Option ℕ) (files : Files) (last : ℕ) → Opens at o old opened files last → (n : ℕ) → IsOpen files n → IsOpen old.files n ⊎ ((opening : Opening) × (o ≡ Some opening) × IsThere at opening.target n)
open_cases at None old opened files last it n isopen = inl (subst (λ (fs : Files). IsOpen fs n) it.1 isopen)
open_cases at (Some opening) old opened files last it n isopen = elim (entry_some old.files last _ isopen.handle isopen.file (ap (λ (fs : Files). fs isopen.handle) (sym it.files_are) ∙ isopen.here)) [
  | inl (e, same) ↦ inr (opening, refl, subst (λ k. IsThere at opening.target k) (ap (λ (g : OpenFile). g.number) same ∙ isopen.node) it.there)
  | inr (ne, was) ↦ inl (record { handle = isopen.handle; file = isopen.file; here = was; node = isopen.node })
]

has_kept : (old mid : Lookup) → KeepsPlaces old mid → (l : Location) (p : Names) → HasPath old l p → HasPath mid l p
has_kept old mid keeps (AtNode n) p h = stands_kept old mid keeps n (at_path p) h
has_kept old mid keeps (AtName parent name) p it = record { above = it.above; leads = stands_kept old mid keeps parent (at_path it.above) it.leads; whole = it.whole }

module _ (old new : World) (id : ℕ) (g : RequestInFlight) (its : Work) (at : IsAtWork old.flights id g its) (outcome : Outcome) (answer : Answer) (ends : Ends old id g (act_of its.footprint outcome) its.footprint.entries answer new)
    (steady : IsSteady old) (steady' : IsSteady new) where
  its_ready : IsReady old.at g its
  its_ready = steady.ready id g its at

  grounded : IsGrounded its.footprint
  grounded = subst (λ (d : Footprint). IsGrounded d) (sym its_ready.footprint) (are_grounded its.want its_ready.case)

  keeps : KeepsPlaces old.at ends.entered
  keeps = entries_keep _ old.at ends.entered old.postings new.postings its.footprint.entries _ answer.given ends.enters

  flights_is : new.flights ≡ with_entry old.flights id (Some (answered g answer.given answer.opened))
  flights_is = ap (λ (w : World). w.flights) ends.new_is

  others_at : (k : ℕ) (f : RequestInFlight) (work : Work) → IsAtWork new.flights k f work → (id ≢ k) × IsAtWork old.flights k f work
  others_at k f work here =
      other_work old.flights id k (Some (answered g answer.given answer.opened)) f work
      (λ h e stage. false≢true (ap (λ (st : Stage). is_at_work st) (ap (λ (r : RequestInFlight). r.stage) (same_Some (answered g answer.given answer.opened) h e) ∙ stage)))
      (subst (λ (fs : RequestsInFlight). IsAtWork fs k f work) flights_is here)

  clear : HoldsUp new.flights its.held → ⊥
  clear up = let it = others_at up.id up.flight up.work up.here in steady.held.apart up.id id up.flight g up.work its it.1 at (λ e. it.0 (sym e)) up.conflict

  module _ (k : ℕ) (f : RequestInFlight) (work : Work) (here : IsAtWork new.flights k f work) (p : Names) (own : Contains work.held.exclusive p) (prefixes : HoldsPrefixes work.held p) (some : p ≢ []) (n : ℕ) (leads : IsPathOf new.at n p) where
    landing : (w : Where) → Stands ends.entered n w → (v : Where) × Stands ends.altered n v × (v ≡ at_path p → w ≡ at_path p)
    landing w stands = elim (act_cases its.footprint outcome) [
      | inl still ↦
          let same : ends.altered ≡ ends.entered = subst (λ (change : Change). Alters ends.entered change ends.altered) still ends.alters in
          (w, subst (λ (l : Lookup). Stands l n w) (sym same) stands, λ e. e)
      | inr none ↦
          let same : ends.entered ≡ old.at = none_entered _ old.at ends.entered old.postings new.postings its.footprint.entries answer.given (subst (λ found. EntersAll (with_entry old.flights id (Some (answered g [] None))) old.at old.postings its.footprint.entries found answer.given ends.entered new.postings) none ends.enters) in
          lands old.at new.flights its.footprint its.held its_ready.holds clear its_ready.below k f work here p prefixes (act_of its.footprint outcome).change ends.altered (act_own its.footprint grounded outcome)
          (subst (λ (l : Lookup). Alters l (act_of its.footprint outcome).change ends.altered) same ends.alters) n w (subst (λ (l : Lookup). Stands l n w) same stands)
    ]

    stood_there : (x : Node) → old.at n ≡ Some x → IsPathOf old.at n p
    stood_there x lives =
        let it = somewhere old.at steady.tree n x lives in
        let v = landing it.0 (stands_kept old.at ends.entered keeps n it.0 it.1) in
        let e = v.2 (where_swept ends.sweeps.kept ends.altered new.at steady'.tree ends.sweeps.swept n v.0 v.1 p leads) in
        subst (λ (w : Where). Stands old.at n w) e it.1

    not_opened : (o : Opening) → (act_of its.footprint outcome).opens ≡ Some o → IsThere ends.altered o.target n → ⊥
    not_opened o opens there =
        let its_opens = opens_of its.footprint outcome o opens in
        let shares = subst (λ (d : Footprint). d.opens ≡ Some o → Contains d.shared o.target × (d.done ≡ stays)) (sym its_ready.footprint) (opens_shared its.want its_ready.case o) its_opens.0 in
        let still : (act_of its.footprint outcome).change ≡ stays = elim its_opens.1 [ inl e ↦ e | inr e ↦ e ∙ shares.1 ] in
        let same : ends.altered ≡ ends.entered = subst (λ (change : Change). Alters ends.entered change ends.altered) still ends.alters in
        let it = located old.at old.at its.footprint its.held its_ready.holds its_ready.holds o.target (grounded.shared o.target shares.0) in
        let now : IsPathOf ends.altered n it.0 = subst (λ (l : Lookup). IsPathOf l n it.0) (sym same) (there_path ends.entered o.target n it.0 (has_kept old.at ends.entered keeps o.target it.0 it.1) (subst (λ (l : Lookup). IsThere l o.target n) same there)) in
        let is : it.0 ≡ p = path_same ends.altered (rooted_unswept ends.sweeps.kept ends.altered new.at steady'.tree ends.sweeps.swept) it.0 p n now (path_unswept ends.sweeps.kept ends.altered new.at steady'.tree ends.sweeps.swept n p leads) in
        let shared : Contains its.held.shared p = (its_ready.holds.shared p).1 (inl (any_in (IsPrefixAt old.at p) its.footprint.shared o.target shares.0
        (record { path = p; leads = subst (λ q. HasPath old.at o.target q) is it.1; begins = record { some = some; begins = is_prefix-same p } }))) in
        let other = others_at k f work here in
        steady.held.apart k id f g work its other.1 at (λ e. other.0 (sym e)) (inl (inr (own.0, p, own.1, own.2, shared)))

    ended_back : IsOpen new.files n → IsPathOf old.at n p × IsOpen old.files n
    ended_back isopen = elim (open_cases ends.altered (act_of its.footprint outcome).opens old answer.opened new.files new.last_handle ends.opens n isopen) [
      | inl was ↦ let lives = opened_lives old steady.nodes n was in (stood_there lives.0 lives.1, was)
      | inr (o, opens, there) ↦ absurd (not_opened o opens there)
    ]

  ended_mark : (n : ℕ) (p : Names) → IsPathOf new.at n p → (x : Node) → old.at n ≡ Some x → x.hidden ≡ true → (z : Node) → new.at n ≡ Some z → z.hidden ≡ true
  ended_mark n p leads x here marked z here' =
      let it = keeps.place n x here in
      mark_altered (act_of its.footprint outcome).change ends.entered ends.altered n ends.alters it.0 it.1 (it.3 marked) z (ends.sweeps.swept.kept n z here') (λ lost. cut_pathless new.at steady'.tree n p (z, here', lost) leads)

  pub ended_undisturbed : AreUndisturbed old.at old.files old.flights → AreUndisturbed new.at new.files new.flights
  ended_undisturbed was k f work here =
      let old_at = (others_at k f work here).1 in
      undisturbed_on old.at new.at old.files new.files f work steady.tree (steady.ready k f work old_at) (steady'.ready k f work here)
      (λ p own prefixes some n leads isopen. ended_back k f work here p own prefixes some n leads isopen)
      ended_mark
      (was k f work old_at)
