-- A change of names keeps marked nodes at reserved names, if it does not move a reserved name to one that is not.
use Rattle.std.proofs.Common.{ℕ, ◌≡◌, ◌⊎◌, Bool, true, false, Some, None, refl, sym, ap, ◌∙◌, subst, inl, inr}
use Rattle.std.proofs.lemmas.Bool.{cases_eq}
use Rattle.paths.specs.Hidden.{is_reserved}
use Rattle.paths.specs.Prefixes.{Names}
use Rattle.tree.specs.declared.nodes.Node.{Node}
use Rattle.tree.specs.Moves.{after_cut, after_exchange, after_move, at_path}
use Rattle.tree.specs.Places.{Lookup, IsCut, IsPathOf, with_node}
use Rattle.tree.proofs.Climbing.{path_under}
use Rattle.tree.proofs.LookupLemmas.{with_other}
use Rattle.table_footprints.specs.Asked.{HasPath, IsThere}
use Rattle.table_footprints.specs.Footprints.{AtName, AtNode, Change, Location, cuts, exchanges, hides, moves, replaces, stays}
use Rattle.table_steps.specs.Steps.{Alters, Follows, Hides, Marks, Moves, Replaces, after_follow, none_there, one_there}
use Rattle.table_hiding.proofs.Marked.{AreMarkedReserved, HasReservedPath, reserved_changed, stands_places, stands_reserved, written_places}
use Rattle.table_hiding.proofs.Reserved.{IsReservedPath, cut_reserved, exchange_reserved, follow_cut, follow_reserved, move_reserved, source_reserved, unreserved_end}

-- the location is at a reserved name, or at another name
abbrev pub IsReservedName : Location → Type 0
IsReservedName (AtName parent name) = is_reserved name ≡ true
IsReservedName (AtNode number) = ⊥

abbrev pub IsOtherName : Location → Type 0
IsOtherName (AtName parent name) = is_reserved name ≡ false
IsOtherName (AtNode number) = ⊥

-- the change moves no marked node to a name that is not reserved
abbrev pub SparesMarked : Change → Type 0
SparesMarked stays = Unit {0}
SparesMarked (cuts l) = Unit {0}
SparesMarked (moves source target) = IsOtherName source
SparesMarked (hides l candidate) = IsReservedName candidate
SparesMarked (replaces source target candidate moved) = IsOtherName source × IsReservedName candidate
SparesMarked (exchanges source target) = IsOtherName source × IsOtherName target

-- ---- paths of locations

path_reserved : (at : Lookup) (l : Location) (path : Names) → HasPath at l path → IsReservedName l → IsReservedPath path
path_reserved at (AtName parent name) path leads is = record { above = leads.above; name = name; whole = leads.whole; reserved = is }
path_reserved at (AtNode number) path leads bad = absurd bad

path_other : (at : Lookup) (l : Location) (path : Names) → HasPath at l path → IsOtherName l → IsReservedPath path → ⊥
path_other at (AtName parent name) path leads is it = unreserved_end path leads.above name leads.whole is it
path_other at (AtNode number) path leads bad it = bad

path_there : (at : Lookup) (l : Location) (path : Names) → HasPath at l path → (n : ℕ) → IsThere at l n → IsPathOf at n path
path_there at (AtNode m) path leads n e = subst (λ k. IsPathOf at k path) (sym e) leads
path_there at (AtName parent name) path leads n named = subst (λ p. IsPathOf at n p) (sym leads.whole) (path_under at n parent leads.above name named leads.leads)

-- ---- what is hidden

-- marking a node at a reserved name, or a cut one, maintains this
mark_reserved : (at : Lookup) (n : ℕ) (x : Node) → at n ≡ Some x → IsCut at n ⊎ HasReservedPath at n → AreMarkedReserved at → AreMarkedReserved (with_node at n (record x { hidden = true }))
mark_reserved at n x here stands safe m z here' mark =
    let y : Node = record x { hidden = true } in
    let places = written_places at n x y here refl in
    elim (cases_eq n m) [
      | inl e ↦ stands_places at (with_node at n y) places m (subst (λ k. IsCut at k ⊎ HasReservedPath at k) e stands)
      | inr ne ↦ stands_places at (with_node at n y) places m (safe m z (sym (with_other at n y m ne) ∙ here') mark)
    ]

marks_reserved : (old mid new : Lookup) (l c : Location) → Marks old l mid new → Moves old l c mid → IsReservedName c → AreMarkedReserved mid → AreMarkedReserved new
marks_reserved old mid new l c (none_there none same) m is safe = subst (λ (at : Lookup). AreMarkedReserved at) (sym same) safe
marks_reserved old mid new l c (one_there n x there here same) m is safe =
    let ends = source_reserved m.path m.new_path (path_reserved old c m.new_path m.new_leads is) in
    let stands = m.changes.moved n (at_path m.path) (path_there old l m.path m.leads n there) in
    subst (λ (at : Lookup). AreMarkedReserved at) (sym same) (mark_reserved mid n x here (stands_reserved mid n (after_move m.path m.new_path (at_path m.path)) ends stands) safe)

hides_reserved : (old new : Lookup) (l c : Location) → Hides old l c new → IsReservedName c → AreMarkedReserved old → AreMarkedReserved new
hides_reserved old new l c it is safe =
    let m = it.moves in
    marks_reserved old it.mid new l c it.marks m is
    (reserved_changed (after_move m.path m.new_path) old it.mid refl (move_reserved m.path m.new_path (λ r. path_reserved old c m.new_path m.new_leads is)) m.changes safe)

follows_reserved : (old new : Lookup) (c p q : Names) (moved : Bool) → Follows old c p q moved new → (IsReservedPath p → ⊥) → AreMarkedReserved old → AreMarkedReserved new
follows_reserved old new c p q false same other safe = subst (λ (at : Lookup). AreMarkedReserved at) (sym same) safe
follows_reserved old new c p q true changes other safe = reserved_changed (after_follow c p q) old new (follow_cut c p q) (follow_reserved c p q (λ r. absurd (other r))) changes safe

-- ---- all changes

pub reserved_altered : (change : Change) (old new : Lookup) → SparesMarked change → Alters old change new → AreMarkedReserved old → AreMarkedReserved new
reserved_altered stays old new is same safe = subst (λ (at : Lookup). AreMarkedReserved at) (sym same) safe
reserved_altered (cuts l) old new is it safe = reserved_changed (after_cut it.path) old new refl (cut_reserved it.path) it.changes safe
reserved_altered (moves s t) old new is it safe =
    reserved_changed (after_move it.path it.new_path) old new refl (move_reserved it.path it.new_path (λ r. absurd (path_other old s it.path it.leads is r))) it.changes safe
reserved_altered (hides l c) old new is it safe = hides_reserved old new l c it is safe
reserved_altered (replaces s t c moved) old new is it safe =
    follows_reserved it.hidden new it.hides.moves.new_path it.path it.new_path moved it.follows (path_other old s it.path it.leads is.0) (hides_reserved old it.hidden t c it.hides is.1 safe)
reserved_altered (exchanges s t) old new is it safe =
    reserved_changed (after_exchange it.path it.new_path) old new refl
    (exchange_reserved it.path it.new_path (λ r. absurd (path_other old s it.path it.leads is.0 r)) (λ r. absurd (path_other old t it.new_path it.new_leads is.1 r))) it.changes safe
