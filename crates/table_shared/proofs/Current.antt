-- From a request's begin to its finish the paths that it was given lead to the nodes that it holds.
use Rattle.std.proofs.Common.{ℕ, ◌≡◌, if◌then◌else◌, List, [], ◌∷◌, All, Contains, Some, refl, sym, ap, ◌∙◌, subst, inl, inr}
use Rattle.std.proofs.lemmas.Bool.{cases_Bool, cond-false, cond-true}
use Rattle.std.proofs.lemmas.List.Elements.{All-cons, All-contains, All-nil, All-same}
use Rattle.paths.specs.Prefixes.{Names}
use Rattle.holds.specs.declared.held.Held.{Held}
use Rattle.holds.specs.declared.held.GivenPath.{GivenPath}
use Rattle.tree.specs.Places.{Lookup, IsPathOf, IsTree}
use Rattle.tree.proofs.Climbing.{path_same}
use Rattle.table_requests.specs.declared.data.Want.{Want}
use Rattle.table_footprints.specs.Asked.{ArePaths, HasPath, Holds}
use Rattle.table_footprints.specs.Laws.{IsGrounded, base_of}
use Rattle.table_footprints.specs.Footprints.{AtName, AtNode, Footprint, Location}
use Rattle.table_footprints.proofs.Members.{first_in, in_map, later_in}
use Rattle.table_footprints.proofs.FootprintLemmas.{are_grounded}
use Rattle.table_steps.specs.declared.data.Begin.TheVariants.{Busy, Go, Refused}
use Rattle.table_steps.specs.Answers.{Claim}
use Rattle.table_steps.specs.Steps.{Begins, IsTicket}
use Rattle.table_steps.specs.World.{RequestInFlight, IsAtWork, IsLawfulWorld, Work, Working, World}
use Rattle.table.specs.Renewing.{BeginsAnew}
use Rattle.table.proofs.Closing.{renewed_is}
use Rattle.table_shared.specs.Current.{IsAsBegun, IsCurrent, KeepsPaths, StaysCurrent, before_finish, is_finish}
use Rattle.table_shared.specs.Histories.{IsHistory, Made}
use Rattle.table_shared.specs.Runs.{Call, IsStep, began, finished, forgot, looked, settled}
use Rattle.table_shared.proofs.Histories.{history_start}
use Rattle.table_shared.proofs.Staying.{StaysAtWork, entry_same, step_stays}

-- ---- one claim

-- a request for the same want holds the same paths before and after, so the paths of its locations are the same
module _ (old new : Lookup) (tree : IsTree old) (d : Footprint) (held : Held) (was : Holds old d held) (is : Holds new d held) where
  given_path : (n : ℕ) → Contains d.given n → (q : Names) → IsPathOf old n q → IsPathOf new n q
  given_path n given q leads =
      let it = in_map (λ (lead : GivenPath). lead.number) held.given n (subst (λ ns. Contains ns n) (sym was.numbers) given) in
      let before : IsPathOf old it.0.number it.0.path = All-contains (λ (lead : GivenPath). IsPathOf old lead.number lead.path) held.given it.0 was.leads it.1 in
      let after : IsPathOf new it.0.number it.0.path = All-contains (λ (lead : GivenPath). IsPathOf new lead.number lead.path) held.given it.0 is.leads it.1 in
      let same : it.0.path ≡ q = path_same old tree.rooted it.0.path q n (subst (λ k. IsPathOf old k it.0.path) it.2 before) leads in
      subst (λ p. IsPathOf new n p) same (subst (λ k. IsPathOf new k it.0.path) it.2 after)

  location_path : (l : Location) → Contains d.given (base_of l) → (q : Names) → HasPath old l q → HasPath new l q
  location_path (AtNode n) given q leads = given_path n given q leads
  location_path (AtName parent name) given q it = record { above = it.above; leads = given_path parent given it.above it.leads; whole = it.whole }

  paths_kept : (ls : List Location) → ((l : Location) → Contains ls l → Contains d.given (base_of l)) → (paths : List Names) → ArePaths old ls paths → ArePaths new ls paths
  paths_kept [] given paths none = none
  paths_kept (l ∷ ls) given paths (path, rest, spelt, leads, more) =
      (path, rest, spelt, location_path l (given l (first_in l ls)) path leads, paths_kept ls (λ m h. given m (later_in l ls m h)) rest more)

  ticket_kept : IsGrounded d → (claim : Claim) → IsTicket old d claim → IsTicket new d claim
  ticket_kept footprint claim it = record {
    paths = paths_kept d.paths footprint.paths claim.paths it.paths;
    same = it.same;
    hide = it.hide;
    last = it.last;
  }

pub current_kept : (old new : World) (want : Want) (claim : Claim) → IsLawfulWorld old → IsLawfulWorld new → StaysAtWork old new claim.id → IsCurrent old want claim → IsCurrent new want claim
current_kept old new want claim was is stays c =
    let here : IsAtWork new.flights claim.id c.flight c.work = record { here = stays c.flight c.work c.here; working = c.here.working } in
    let before = was.ready claim.id c.flight c.work c.here in
    let after = is.ready claim.id c.flight c.work here in
    let footprint : IsGrounded c.work.footprint = subst (λ (d : Footprint). IsGrounded d) (sym before.footprint) (are_grounded c.work.want before.case) in
    record {
      flight = c.flight;
      work = c.work;
      here = here;
      want_is = c.want_is;
      ticket = ticket_kept old.at new.at was.law.tree c.work.footprint c.work.held before.holds after.holds footprint claim c.ticket;
    }

-- the claim of a request that begins has the paths before it, and what is dropped then takes none of them
pub begun_current : (old : World) (unique : ℕ) (want : Want) (claim : Claim) (new : World) → IsTree old.at → IsLawfulWorld new → Begins old unique want (Go claim) new → IsCurrent new want claim
begun_current old unique want claim new tree is b =
    let goes = b.begins.1 in
    let work : Work = record { want = want; footprint = b.footprint; held = goes.held } in
    let flight : RequestInFlight = record { unique = unique; stage = Working work; pins = goes.pins } in
    let here : IsAtWork new.flights claim.id flight work = record { here = ap (λ (w : World). w.flights claim.id) goes.new_is ∙ entry_same old.flights claim.id (Some flight); working = refl } in
    let footprint : IsGrounded work.footprint = subst (λ (d : Footprint). IsGrounded d) (sym b.footprint_is.footprint) (are_grounded want b.footprint_is.case) in
    record {
      flight = flight;
      work = work;
      here = here;
      want_is = refl;
      ticket = ticket_kept old.at new.at tree work.footprint goes.held goes.holds (is.ready claim.id flight work here).holds footprint claim goes.ticket_is;
    }

pub begun_anew : (old : World) (unique : ℕ) (want : Want) (claim : Claim) (new : World) → IsLawfulWorld old → IsLawfulWorld new → BeginsAnew old unique want (Go claim) new → IsCurrent new want claim
begun_anew old unique want claim new was is b =
    let same : b.renewed.at ≡ old.at = ap (λ (w : World). w.at) (renewed_is old b.renewed b.renews) in
    begun_current b.renewed unique want claim new (subst (λ (at : Lookup). IsTree at) (sym same) was.law.tree) is b.begins

-- ---- a history

-- what holds of a request since the world in which it began
module _ (begun : World) (want : Want) (claim : Claim) where
  abbrev Lasts : Made → Type 0
  Lasts now = IsAsBegun begun now.after want claim

  lasts_on : (w : World) (history : List Made) → IsHistory w history → IsAsBegun begun w want claim → All Lasts (before_finish claim.id history)
  lasts_on w [] run is = All-nil Lasts
  lasts_on w (made ∷ history) run is =
      let rest = before_finish claim.id history in
      let ends = is_finish claim.id made.call in
      elim (cases_Bool ends) [
        | inl last ↦ All-same Lasts (if ends then [] else made ∷ rest) [] (cond-true ends [] (made ∷ rest) last) (All-nil Lasts)
        | inr other ↦
            let stays = step_stays w made.after made.call claim.id other run.1 in
            let next : IsAsBegun begun made.after want claim = record {
              same = stays is.current.flight is.current.work is.current.here ∙ (sym is.current.here.here ∙ is.same);
              current = current_kept w made.after want claim run.0 (history_start made.after history run.2) stays is.current;
            } in
            All-same Lasts (if ends then [] else made ∷ rest) (made ∷ rest) (cond-false ends [] (made ∷ rest) other)
            (All-cons Lasts made rest next (lasts_on made.after history run.2 next))
      ]

keeps_paths : (w : World) (call : Call) (made : Made) (later : List Made) → IsLawfulWorld w → IsHistory made.after later → IsStep w call made.after → KeepsPaths call made later
keeps_paths w (began unique want (Go claim)) made later was run step =
    let first : IsAsBegun made.after made.after want claim = record { same = refl; current = begun_anew w unique want claim made.after was (history_start made.after later run) step } in
    All-cons (Lasts made.after want claim) made (before_finish claim.id later) first (lasts_on made.after want claim made.after later run first)
keeps_paths w (began unique want Busy) made later was run step = tt
keeps_paths w (began unique want (Refused errno)) made later was run step = tt
keeps_paths w (finished id outcome told) made later was run step = tt
keeps_paths w (settled answer taken told) made later was run step = tt
keeps_paths w (forgot number n told) made later was run step = tt
keeps_paths w (looked fh told) made later was run step = tt

pub history_current : (start : World) (history : List Made) → IsHistory start history → StaysCurrent history
history_current start [] run = tt
history_current start (made ∷ history) run = (keeps_paths start made.call made history run.0 run.2 run.1, history_current made.after history run.2)
