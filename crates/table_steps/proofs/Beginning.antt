-- A request that begins has what it will rely on, whatever its want.
use Rattle.std.proofs.Common.{ℕ, ◌≡◌, ◌⊎◌, ◌↔◌, List, [], ◌∷◌, All, Contains, length, refl, sym, subst, inl, inr, arith}
use Rattle.std.proofs.lemmas.List.{length-map}
use Rattle.std.proofs.lemmas.List.Elements.{All-cons}
use Rattle.paths.specs.Prefixes.{Name}
use Rattle.tree.specs.declared.nodes.Key.{Key}
use Rattle.tree.specs.Places.{Lookup}
use Rattle.table_requests.specs.declared.data.Case.{Case}
use Rattle.table_requests.specs.declared.data.Case.TheVariants as cases
use Rattle.table_requests.specs.declared.data.Want.{Want}
use Rattle.table_requests.specs.declared.data.Want.TheVariants.{Node, Name as AName, Remove, Move, Exchange, Page, Open, Create, Release, Link}
use Rattle.table_steps.specs.Answers.{Claim}
use Rattle.holds.specs.declared.held.Held.{Held}
use Rattle.table_footprints.specs.Asked.{Holds, IsPin, IsThere}
use Rattle.table_footprints.specs.Cases.{IsCase, IsFootprint, IsEntryCase, Seen}
use Rattle.table_footprints.specs.Footprints.{AtName, AtNode, Footprint, link_footprint, name_footprint, footprint_of}
use Rattle.table_steps.specs.Laws.{IsPlaced}
use Rattle.table_steps.specs.Steps.{GoesOn, MayBegin}
use Rattle.table_steps.specs.World.{RequestInFlight, IsReady, IsStanding, Working, World, seen_in}
use Rattle.table_footprints.proofs.Members.{any_first, any_later, later_in}
use Rattle.table_steps.proofs.Rooted.{rows_placed}

module _ (at : Lookup) (f : RequestInFlight) where
  entry_known : (parent : ℕ) (name : Name) (c : Case) → IsEntryCase at parent name c → ((n : ℕ) → IsPin at (name_footprint parent name c) n → Contains f.pins n)
      → ((name_footprint parent name c).births ≡ length (name_footprint parent name c).entries) ⊎ All (IsStanding at f) (name_footprint parent name c).entries
  entry_known parent name cases.Plain fits pins =
      let key : Key = record { parent = parent; name = name } in
      let stands : IsStanding at f key = record { number = fits.0; named = fits.1; pin = pins fits.0 (inr (any_first (λ l. IsThere at l fits.0) (AtName parent name) [] fits.1)) } in
      inr (All-cons (IsStanding at f) key [] stands (λ k d within. absurd (omega (arith, within))))
  entry_known parent name cases.Absent fits pins = inl refl
  entry_known parent name cases.Pathless fits pins = absurd fits
  entry_known parent name cases.Last fits pins = absurd fits
  entry_known parent name (cases.Hiding n k) fits pins = absurd fits

-- a pin of the name alone is one of the name and the node
link_pins : (at : Lookup) (number parent : ℕ) (name : Name) (c : Case) (n : ℕ) → IsPin at (name_footprint parent name c) n → IsPin at (link_footprint number parent name c) n
link_pins at number parent name c n (inl given) = inl (later_in number (parent ∷ []) n given)
link_pins at number parent name c n (inr any) = inr (any_later (λ l. IsThere at l n) (AtNode number) (AtName parent name ∷ []) any)

names_known : (seen : Seen) (f : RequestInFlight) (want : Want) (c : Case) → IsCase seen want c → ((n : ℕ) → IsPin seen.at (footprint_of want c) n → Contains f.pins n)
    → ((footprint_of want c).births ≡ length (footprint_of want c).entries) ⊎ All (IsStanding seen.at f) (footprint_of want c).entries
names_known seen f (Node number handle) c fits pins = inl refl
names_known seen f (AName parent name) c fits pins = entry_known seen.at f parent name c fits pins
names_known seen f (Remove parent name may_hide) c fits pins = inl refl
names_known seen f (Move parent name new_parent new_name keep) c fits pins = inl refl
names_known seen f (Exchange parent name new_parent new_name) c fits pins = inl refl
names_known seen f (Page folder names) c fits pins = inl (sym (length-map names (λ (name : Name). let key : Key = record { parent = folder; name = name } in key)))
names_known seen f (Open number access) c fits pins = inl refl
names_known seen f (Create parent name access) c fits pins = entry_known seen.at f parent name c fits pins
names_known seen f (Release number fh) c fits pins = inl refl
names_known seen f (Link number parent name) c fits pins = entry_known seen.at f parent name c fits (λ n pin. pins n (link_pins seen.at number parent name c n pin))

pub ready_begun : (old : World) (unique : ℕ) (want : Want) (d : Footprint) → IsFootprint (seen_in old) want d → MayBegin old d → (held : Held) → Holds old.at d held → (pins : List ℕ) → ((n : ℕ) → Contains pins n ↔ IsPin old.at d n)
    → IsReady old.at (record { unique = unique; stage = Working (record { want = want; footprint = d; held = held }); pins = pins }) (record { want = want; footprint = d; held = held })
ready_begun old unique want d asked may held holds pins pinned =
    let f : RequestInFlight = record { unique = unique; stage = Working (record { want = want; footprint = d; held = held }); pins = pins } in
    let P : Footprint → Type 0 = λ e. ((n : ℕ) → IsPin old.at e n → Contains pins n) → (e.births ≡ length e.entries) ⊎ All (IsStanding old.at f) e.entries in
    let known : P d = subst P (sym asked.footprint) (names_known (seen_in old) f want asked.case asked.fits) in
    record {
      case = asked.case;
      footprint = asked.footprint;
      holds = holds;
      pinned = λ n h. (pinned n).1 (inl h);
      names = known (λ n h. (pinned n).1 h);
      placed = may.sound.not_misplaced;
      below = subst (λ (e : Footprint). IsPlaced e.exclusive) (sym asked.footprint) (rows_placed (seen_in old) want asked.case asked.fits);
    }

pub begun_ready : (old new : World) (unique : ℕ) (want : Want) (d : Footprint) (ticket : Claim) → IsFootprint (seen_in old) want d → MayBegin old d → (goes : GoesOn old unique want d ticket new)
    → IsReady old.at (record { unique = unique; stage = Working (record { want = want; footprint = d; held = goes.held }); pins = goes.pins }) (record { want = want; footprint = d; held = goes.held })
begun_ready old new unique want d ticket asked may goes = ready_begun old unique want d asked may goes.held goes.holds goes.pins goes.pinned
