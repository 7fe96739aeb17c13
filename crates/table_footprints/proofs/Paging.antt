-- What was found at the names of a page is what its footprint reserves.
use Rattle.std.proofs.Common.{ℕ, ◌+◌, ◌*◌, ◌<◌, ◌≤◌, ◌≡◌, ◌↔◌, ◌++◌, List, [], ◌∷◌, Contains, length, get_or, take, refl, sym, ap, ◌∙◌, subst, inl, inr, arith}
use Rattle.std.specs.Prelude.{map}
use Rattle.std.specs.List.{AllZip}
use Rattle.std.proofs.lemmas.List.{length-map, map-append, take_more}
use Rattle.paths.specs.Prefixes.{Name, Names, path_bytes}
use Rattle.table_requests.specs.declared.data.Promise.{Promise}
use Rattle.table_requests.specs.Roomy.{Listed, Pinned}
use Rattle.holds.specs.declared.held.GivenPath.{GivenPath}
use Rattle.holds.specs.declared.held.Held.{Held}
use Rattle.tree.specs.declared.nodes.Key.{Key}
use Rattle.tree.specs.Places.{Lookup, IsTree, Leads}
use Rattle.table_footprints.specs.declared.gatherings.Gathering.{Gathering}
use Rattle.table_requests.specs.declared.data.Case.{Case}
use Rattle.table_requests.specs.declared.data.Case.TheVariants as cases
use Rattle.table_footprints.specs.declared.gatherings.Reservation.{Reservation}
use Rattle.table_footprints.specs.declared.found.AtLocation.{AtLocation}
use Rattle.table_footprints.specs.declared.refusal.FootprintRefusal.{FootprintRefusal}
use Rattle.table_footprints.specs.declared.refusal.FootprintRefusal.TheVariants as refusal
use Rattle.table_footprints.specs.declared.footprints.HoldMode.TheVariants.{Shared}
use Rattle.table_footprints.specs.Asked.{ArePaths, HasPath, Holds, IsAboveAt, IsLong, IsPin, IsStale, IsThere, IsUnsound, long, no_memory, stale}
use Rattle.table_footprints.specs.Gatherings.{Adds, IsBadFootprint, IsGathering, IsReserved, IsFound, IsLongPath, IsNoGathering, IsPinAt, IsShortPath, IsReservation, refusal_errno}
use Rattle.table_footprints.specs.declared.in_folder.FoundName.{FoundName}
use Rattle.table_footprints.specs.InFolder.{IsNameFound}
use Rattle.table_footprints.specs.Pages.{AddsName, IsPage}
use Rattle.table_footprints.specs.Footprints.{Location, AtName, AtNode, hidden_in, page_keys, page_names, page_footprint}
use Rattle.table_footprints.proofs.Agreeing.{paths_for}
use Rattle.table_footprints.proofs.Gathering.{draft_more, draft_none}
use Rattle.table_footprints.proofs.Finding.{location_once}
use Rattle.table_footprints.proofs.Members.{any_cases, any_first, any_none, any_push, first_in, in_any, later_in, map_in, none_in, only_in, zip_in, zip_push}

-- ---- names one after another

pub names_more : (folder : ℕ) (names : List Name) (i : ℕ) (name : Name) → i < length names → name ≡ get_or names i name → page_names folder (take (i + 1) names) ≡ page_names folder (take i names) ++ AtName folder name ∷ []
names_more folder names i name within read =
    ap (page_names folder) (take_more names i name within ∙ ap (λ (x : Name). take i names ++ x ∷ []) (sym read)) ∙ map-append (λ x. AtName folder x) (take i names) (name ∷ [])

pub name_in : (folder : ℕ) (names : List Name) (name : Name) → Contains names name → Contains (AtNode folder ∷ page_names folder names) (AtName folder name)
name_in folder names name h = later_in (AtNode folder) (page_names folder names) (AtName folder name) (map_in (λ x. AtName folder x) names name h)

-- ---- what was found

module _ (at : Lookup) (tree : IsTree at) (folder : ℕ) where
  -- the folder only
  pub page_start : (room : ℕ) (none one : Gathering) (f : AtLocation) → IsNoGathering room none → IsFound at (AtNode folder) f → Adds none folder f Shared one → IsPage at folder [] one
  page_start room none one f empty found adds =
      let is : IsGathering at Shared (AtNode folder ∷ []) one = draft_more at tree (AtNode folder) f found Shared [] none one (draft_none at Shared room none empty) adds in
      record {
        numbers = is.numbers;
        leads = is.leads;
        shared = is.shared;
        exclusive = adds.exclusive ∙ ap (λ (ps : List Names). ps ++ []) empty.exclusive;
        paths = is.paths;
        pins = λ n. (
          λ h. elim (any_cases (IsPinAt at n) (AtNode folder) [] ((is.pins n).0 h)) [
            | inl here ↦ elim here [ inl e ↦ inl e | inr there ↦ inr (any_first (λ l. IsThere at l n) (AtNode folder) [] there) ]
            | inr none ↦ absurd (any_none (IsPinAt at n) none)
          ],
          λ h. (is.pins n).1 (any_first (IsPinAt at n) (AtNode folder) [] (elim h [
            | inl e ↦ inl e
            | inr there ↦ inr (elim (any_cases (λ l. IsThere at l n) (AtNode folder) [] there) [ inl it ↦ it | inr none ↦ absurd (any_none (λ l. IsThere at l n) none) ])
          ])),
        );
      }

  -- one more name
  pub page_more : (ls : List Location) (l : Location) (f : FoundName) (old new : Gathering) → IsPage at folder ls old → IsNameFound at l f → AddsName old f new → IsPage at folder (ls ++ l ∷ []) new
  page_more ls l f old new is found adds = record {
    numbers = ap (λ (leads : List GivenPath). map (λ (lead : GivenPath). lead.number) leads) adds.given ∙ is.numbers;
    leads = rw adds.given is.leads;
    shared = rw adds.shared is.shared;
    exclusive = adds.exclusive ∙ is.exclusive;
    paths = rw adds.paths (zip_push (IsShortPath at) (AtNode folder ∷ ls) old.paths l f.path is.paths (found.path, found.short));
    pins = λ n.
        let push = any_push (λ m. IsThere at m n) (AtNode folder ∷ ls) l in (
          λ h. elim ((adds.pins n).0 h) [
            | inl before ↦ elim ((is.pins n).0 before) [ inl e ↦ inl e | inr there ↦ inr (push.1 (inl there)) ]
            | inr e ↦ inr (push.1 (inr ((found.node n).0 e)))
          ],
          λ h. (adds.pins n).1 (elim h [
            | inl e ↦ inl ((is.pins n).1 (inl e))
            | inr there ↦ elim (push.0 there) [ inl before ↦ inl ((is.pins n).1 (inr before)) | inr here ↦ inr ((found.node n).1 here) ]
          ]),
        );
  }

  -- ---- tests

  module _ (names : List Name) where
    page_rooted : Leads at folder → IsStale at (page_footprint folder names) → ⊥
    page_rooted leads s = s.lost (subst (λ n. Leads at n) (only_in folder s.number s.named) leads)

    page_short : (paths : List Names) → AllZip (IsShortPath at) (AtNode folder ∷ page_names folder names) paths → IsLong at (page_footprint folder names) → ⊥
    page_short paths zip s =
        let it = zip_in (IsShortPath at) (AtNode folder ∷ page_names folder names) paths s.location zip s.asked in
        let short : path_bytes s.path ≤ 4096 = subst (λ (p : Names). path_bytes p ≤ 4096) (location_once at tree s.location it.0 s.path it.2.0 s.leads) it.2.1 in
        let over = s.long in
        absurd (omega arith)

    pub page_lost : (Leads at folder → ⊥) → IsUnsound at (page_footprint folder names) (refusal_errno refusal.Stale)
    page_lost lost = stale refl (record { number = folder; named = first_in folder []; lost = lost })

    pub page_bad : Leads at folder → (r : FootprintRefusal) → IsBadFootprint at (AtNode folder ∷ page_names folder names) r → IsUnsound at (page_footprint folder names) (refusal_errno r)
    page_bad leads refusal.Stale bad = absurd bad
    page_bad leads refusal.TooLong bad =
        let it = in_any (IsLongPath at) (AtNode folder ∷ page_names folder names) bad in
        long refl (page_rooted leads) (record { location = it.0; asked = it.1; path = it.2.0; leads = it.2.1; long = it.2.2 })
    page_bad leads refusal.IntoItself bad = absurd bad
    page_bad leads refusal.OntoFolder bad = absurd bad
    page_bad leads refusal.Memory bad = no_memory refl (page_rooted leads)

    -- ---- what it reserves

    many : length (page_keys folder names) ≡ length names
    many = length-map names (λ (name : Name). let key : Key = record { parent = folder; name = name } in key)

    page_holds : (x : Gathering) → IsPage at folder (page_names folder names) x → Holds at (page_footprint folder names) (record { given = x.given; shared = x.shared; exclusive = x.exclusive })
    page_holds x is = record {
      numbers = is.numbers;
      leads = is.leads;
      shared = λ p. (
        λ h. inl ((is.shared p).0 h),
        λ h. elim h [ inl any ↦ (is.shared p).1 any | inr none ↦ absurd (any_none (IsAboveAt at p) none) ],
      );
      exclusive = λ p. (
        λ h. absurd (none_in p (subst (λ (ps : List Names). Contains ps p) is.exclusive h)),
        λ h. absurd (any_none (λ l. HasPath at l p) h),
      );
    }

    page_pins : (x : Gathering) → IsPage at folder (page_names folder names) x → (n : ℕ) → Contains x.pins.numbers n ↔ IsPin at (page_footprint folder names) n
    page_pins x is n = (
      λ h. elim ((is.pins n).0 h) [ inl e ↦ inl (subst (λ k. Contains (folder ∷ []) k) e (first_in folder [])) | inr there ↦ inr there ],
      λ h. (is.pins n).1 (elim h [ inl named ↦ inl (only_in folder n named) | inr there ↦ inr there ]),
    )

    pub page_agreed : (x : Gathering) (t : Reservation) → Leads at folder → IsPage at folder (page_names folder names) x → length names ≤ x.pins.room → IsReserved x cases.Plain [] (length names) (length names) t → IsReservation at (page_footprint folder names) t
    page_agreed x t leads is room drawn = record {
      sound = record { not_stale = page_rooted leads; not_long = page_short x.paths is.paths; not_misplaced = λ e bad. bad };
      holds = subst (λ (held : Held). Holds at (page_footprint folder names) held) (sym drawn.held) (page_holds x is);
      pins = subst (λ (p : Pinned). (n : ℕ) → Contains p.numbers n ↔ IsPin at (page_footprint folder names) n) (sym drawn.pins) (page_pins x is);
      paths = subst (λ (ps : List Names). ArePaths at (AtNode folder ∷ page_names folder names) ps) (sym drawn.paths) (paths_for at tree (AtNode folder ∷ page_names folder names) x.paths is.paths);
      promise = drawn.promise ∙ ap (λ (n : ℕ). let p : Promise = record { nodes = length names; postings = 3 * n; files = 0 } in p) (sym many);
      pin_room = subst (λ (p : Pinned). length (page_keys folder names) ≤ p.room) (sym drawn.pins) (subst (λ n. n ≤ x.pins.room) (sym many) room);
      answer_room = subst (λ (g : Listed). length (page_keys folder names) ≤ g.room) (sym drawn.answer) (omega (arith, many));
      unanswered = ap (λ (g : Listed). g.items) drawn.answer;
      candidates = drawn.candidates_are ∙ ap (λ (k : Case). hidden_in k) (sym drawn.case_is);
    }
