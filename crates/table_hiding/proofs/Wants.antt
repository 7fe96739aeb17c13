-- A want without reserved names leads to a change that does not affect marked nodes.
use Rattle.std.proofs.Common.{ℕ, zero, suc, ◌≡◌, Bool, true, false, List, [], ◌∷◌, ◌++◌, Option, Some, None, All, Contains, map, refl, sym, ap, ◌∙◌, subst}
use Rattle.std.specs.List.{slice_get}
use Rattle.std.proofs.lemmas.List.Elements.{All-contains, All-head, All-map, All-nil, All-push, All-tail}
use Rattle.paths.specs.Hidden.{candidate, hidden_name, is_reserved}
use Rattle.paths.specs.Prefixes.{Name}
use Rattle.table_requests.specs.declared.data.Case.{Case}
use Rattle.table_requests.specs.declared.data.Case.TheVariants as cases
use Rattle.table_requests.specs.declared.data.Want.{Want}
use Rattle.table_requests.specs.declared.data.Want.TheVariants as wants
use Rattle.table_footprints.specs.Footprints.{AtName, AtNode, Change, Footprint, Location, cuts, exchanges, footprint_of, hidden_in, hidden_names, hides, moves, names_under, replaces, stays}
use Rattle.table_steps.specs.declared.data.Outcome.{Outcome}
use Rattle.table_steps.specs.declared.data.Outcome.TheVariants.{Done, Entries, Entry, Failed, Hidden, HiddenMove}
use Rattle.table_steps.specs.Steps.{act_of, hiding_at, replacing_at}
use Rattle.table_steps.proofs.Guarding.{candidate_in}
use Rattle.table_hiding.specs.Hiding.{IsUnreserved}
use Rattle.table_hiding.proofs.Altered.{IsReservedName, SparesMarked}

-- ---- candidates

abbrev AreReserved : List Name → Type 0
AreReserved names = All (λ name. is_reserved name ≡ true) names

hidden_reserved : (number counter k : ℕ) → AreReserved (hidden_names number counter k)
unfolding hidden_names
hidden_reserved number counter zero = All-nil (λ (name : Name). is_reserved name ≡ true)
hidden_reserved number counter (suc k) =
    All-push (λ (name : Name). is_reserved name ≡ true) (hidden_names number counter k) (hidden_name number (candidate counter k)) (hidden_reserved number counter k) refl

case_reserved : (c : Case) → AreReserved (hidden_in c)
case_reserved cases.Plain = All-nil (λ (name : Name). is_reserved name ≡ true)
case_reserved cases.Absent = All-nil (λ (name : Name). is_reserved name ≡ true)
case_reserved cases.Pathless = All-nil (λ (name : Name). is_reserved name ≡ true)
case_reserved cases.Last = All-nil (λ (name : Name). is_reserved name ≡ true)
case_reserved (cases.Hiding number counter) = hidden_reserved number counter 10

names_reserved : (folder : ℕ) (c : Case) → All IsReservedName (names_under folder (hidden_in c))
names_reserved folder c = All-map IsReservedName (λ (name : Name). AtName folder name) (hidden_in c) (case_reserved c)

none_reserved : All IsReservedName []
none_reserved = All-nil IsReservedName

candidates_reserved : (want : Want) (c : Case) → All IsReservedName (footprint_of want c).candidates
candidates_reserved (wants.Node number handle) c = none_reserved
candidates_reserved (wants.Name parent name) c = none_reserved
candidates_reserved (wants.Remove parent name may_hide) c = names_reserved parent c
candidates_reserved (wants.Move parent name new_parent new_name keep) c = names_reserved new_parent c
candidates_reserved (wants.Exchange parent name new_parent new_name) c = none_reserved
candidates_reserved (wants.Page folder names) c = none_reserved
candidates_reserved (wants.Open number access) c = none_reserved
candidates_reserved (wants.Create parent name access) c = none_reserved
candidates_reserved (wants.Release number fh) c = none_reserved
candidates_reserved (wants.Link number parent name) c = none_reserved

-- ---- what is done

closed_spares : (number fh : ℕ) (c : Case) → SparesMarked (footprint_of (wants.Release number fh) c).done
closed_spares number fh cases.Plain = tt
closed_spares number fh cases.Absent = tt
closed_spares number fh cases.Pathless = tt
closed_spares number fh cases.Last = tt
closed_spares number fh (cases.Hiding n counter) = tt

first_other : (names : List Name) (name : Name) → All (λ name. is_reserved name ≡ false) (name ∷ names) → is_reserved name ≡ false
first_other names name all = All-head (λ (name : Name). is_reserved name ≡ false) name names all

done_spares : (want : Want) (c : Case) → IsUnreserved want → SparesMarked (footprint_of want c).done
done_spares (wants.Node number handle) c plain = tt
done_spares (wants.Name parent name) c plain = tt
done_spares (wants.Remove parent name may_hide) c plain = tt
done_spares (wants.Move parent name new_parent new_name keep) c plain = first_other (new_name ∷ []) name plain
done_spares (wants.Exchange parent name new_parent new_name) c plain =
    (first_other (new_name ∷ []) name plain, first_other [] new_name (All-tail (λ (name : Name). is_reserved name ≡ false) name (new_name ∷ []) plain))
done_spares (wants.Page folder names) c plain = tt
done_spares (wants.Open number access) c plain = tt
done_spares (wants.Create parent name access) c plain = tt
done_spares (wants.Release number fh) c plain = closed_spares number fh c
done_spares (wants.Link number parent name) c plain = tt

-- ---- outcomes

abbrev IsReservedIf : Option Location → Type 0
IsReservedIf None = Unit {0}
IsReservedIf (Some l) = IsReservedName l

one_reserved : (ls : List Location) (o : Option Location) → ((l : Location) → o ≡ Some l → Contains ls l) → All IsReservedName ls → IsReservedIf o
one_reserved ls None among all = tt
one_reserved ls (Some l) among all = All-contains IsReservedName ls l all (among l refl)

hiding_spares : (change : Change) (o : Option Location) → IsReservedIf o → SparesMarked change → SparesMarked (hiding_at change o)
hiding_spares stays o is spares = tt
hiding_spares (cuts (AtNode number)) o is spares = tt
hiding_spares (cuts (AtName parent name)) None is spares = tt
hiding_spares (cuts (AtName parent name)) (Some c) is spares = is
hiding_spares (moves s t) o is spares = tt
hiding_spares (hides l c) o is spares = tt
hiding_spares (replaces s t c moved) o is spares = tt
hiding_spares (exchanges s t) o is spares = tt

replacing_spares : (change : Change) (o : Option Location) (moved : Bool) → IsReservedIf o → SparesMarked change → SparesMarked (replacing_at change o moved)
replacing_spares stays o moved is spares = tt
replacing_spares (cuts l) o moved is spares = tt
replacing_spares (moves s t) None moved is spares = tt
replacing_spares (moves s t) (Some c) moved is spares = (spares, is)
replacing_spares (hides l c) o moved is spares = tt
replacing_spares (replaces s t c again) o moved is spares = tt
replacing_spares (exchanges s t) o moved is spares = tt

-- whatever the outcome of a request that was begun with such a want
pub outcome_spares : (want : Want) (c : Case) (outcome : Outcome) → IsUnreserved want → SparesMarked (act_of (footprint_of want c) outcome).change
outcome_spares want c Failed plain = tt
outcome_spares want c Done plain = done_spares want c plain
outcome_spares want c Entry plain = tt
outcome_spares want c (Entries found) plain = tt
outcome_spares want c (Hidden i) plain =
    let ls = (footprint_of want c).candidates in
    hiding_spares (footprint_of want c).done (slice_get ls i) (one_reserved ls (slice_get ls i) (λ l e. candidate_in ls i l e) (candidates_reserved want c)) (done_spares want c plain)
outcome_spares want c (HiddenMove i moved) plain =
    let ls = (footprint_of want c).candidates in
    replacing_spares (footprint_of want c).done (slice_get ls i) moved (one_reserved ls (slice_get ls i) (λ l e. candidate_in ls i l e) (candidates_reserved want c)) (done_spares want c plain)
