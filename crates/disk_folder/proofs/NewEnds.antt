-- How a rename ends that replaces nothing.
use Rattle.std.proofs.Common.{ℤ, Ok, Err, ◌≡◌, true, false, [], ◌∷◌, ◌++◌, Some, None, IsSome, refl, sym, subst, inl, inr}
use Rattle.paths.specs.Prefixes.{Name, Names, is_prefix}
use Rattle.backing.specs.declared.call.Answer.TheVariants.{Done}
use Rattle.backing.specs.declared.entries.Item.TheVariants.{Folder}
use Rattle.backing.specs.Tree.{Tree, IsTree, Resolves}
use Rattle.backing.specs.Calls.{AskRenameNew, Refuses, tests_of}
use Rattle.backing.specs.Checks.{new_tests}
use Rattle.backing.proofs.PathLemmas.{is_path-no, is_path-yes}
use Rattle.disk.specs.Answers.{AreApart, Moves, Renames}
use Rattle.disk.specs.declared.error.DiskError.{DiskError}
use Rattle.disk.specs.declared.error.DiskError.TheVariants.{Absent, Exists, NotFolder, IsFolder, NotEmpty, Failed as Lost}
use Rattle.disk_folder.specs.declared.trouble.Trouble.{Trouble}
use Rattle.disk_folder.specs.declared.trouble.Trouble.TheVariants.{Refused, Failed}
use Rattle.disk_folder.specs.declared.trouble.Reason.TheVariants.{Taken, Below, Names as HasNames}
use Rattle.disk_folder.specs.Ends.{Ends, Before, After}
use Rattle.disk_folder.specs.Troubles.{IsStopped, reason_errno}
use Rattle.disk_folder.proofs.MoveEnds.{apart_low}
use Rattle.disk_folder.proofs.KeptCases.{other_path}
use Rattle.disk_folder.proofs.WayLemmas.{leads, leads_below}

-- what is refused once something is seen at s
refuse_new : (at : Tree) (s t : Names) (errno : ℤ) → IsTree at → (s ≡ [] → ⊥) → (t ≡ [] → ⊥) → IsSome (at s) → Refuses at (new_tests s t) errno → Refuses at (tests_of None (AskRenameNew s t)) errno
refuse_new at s t errno tree low_s low_t some refuses = inr (low_s, inr (low_t, inr (leads at s tree some, inr (some, refuses))))

pub same_taken : (at : Tree) (s t : Names) → IsTree at → (s ≡ [] → ⊥) → (t ≡ [] → ⊥) → IsSome (at s) → s ≡ t → Ends at (AskRenameNew s t) (Err (Refused Taken)) at
same_taken at s t tree low_s low_t some same = (refuse_new at s t (reason_errno Taken) tree low_s low_t some (inl (is_path-yes s t same, refl)), refl)

pub new_into : (at : Tree) (s t : Names) → IsTree at → (s ≡ [] → ⊥) → (t ≡ [] → ⊥) → IsSome (at s) → (s ≡ t → ⊥) → is_prefix s t ≡ true → Ends at (AskRenameNew s t) (Err (Refused Below)) at
new_into at s t tree low_s low_t some ne into = (refuse_new at s t (reason_errno Below) tree low_s low_t some (inr (is_path-no s t ne, inl (into, refl))), refl)

pub new_over : (at : Tree) (s t : Names) → IsTree at → (s ≡ [] → ⊥) → (t ≡ [] → ⊥) → IsSome (at s) → (s ≡ t → ⊥) → is_prefix s t ≡ false → is_prefix t s ≡ true → Ends at (AskRenameNew s t) (Err (Refused HasNames)) at
new_over at s t tree low_s low_t some ne apart over = (refuse_new at s t (reason_errno HasNames) tree low_s low_t some (inr (is_path-no s t ne, inr (apart, inl (over, refl)))), refl)

-- no way leads to t
pub new_stopped : (at : Tree) (s t : Names) (trouble : Trouble) → IsTree at → AreApart s t → IsSome (at s) → IsStopped at t trouble → Ends at (AskRenameNew s t) (Err trouble) at
new_stopped at s t (Failed errno) tree apart some stopped = Before refl
new_stopped at s t (Refused reason) tree apart some stopped =
    (refuse_new at s t (reason_errno reason) tree (apart_low s t apart.not_into) (apart_low t s apart.not_over) some (inr (is_path-no s t (other_path s t apart.not_into), inr (apart.not_into, inr (apart.not_over, inl stopped)))), refl)

-- something stands at t
pub new_taken : (at : Tree) (s t : Names) → IsTree at → AreApart s t → IsSome (at s) → Resolves at t → IsSome (at t) → Ends at (AskRenameNew s t) (Err (Refused Taken)) at
new_taken at s t tree apart some down there =
    (refuse_new at s t (reason_errno Taken) tree (apart_low s t apart.not_into) (apart_low t s apart.not_over) some (inr (is_path-no s t (other_path s t apart.not_into), inr (apart.not_into, inr (apart.not_over, inr (down, inl (there, refl)))))), refl)

-- it is moved
pub new_done : {H : Type 0} (at at' : Tree) (olds news : H → Names → Type 0) (s t : Names) → IsTree at → Resolves at t → AreApart s t → at t ≡ None → Moves at olds s t at' news → Ends at (AskRenameNew s t) (Ok Done) at'
new_done at at' olds news s t tree down apart free moves =
    ((apart_low s t apart.not_into, (apart_low t s apart.not_over, (leads at s tree moves.source, (moves.source, (is_path-no s t (other_path s t apart.not_into), (apart.not_into, (apart.not_over, (down, (free, tt))))))))), (refl, moves.tree))

pub new_moved : {H : Type 0} (at at' : Tree) (olds news : H → Names → Type 0) (up : Names) (name : Name) (up' : Names) (name' : Name) → IsTree at → at up' ≡ Some Folder → AreApart (up ++ name ∷ []) (up' ++ name' ∷ []) → at (up' ++ name' ∷ []) ≡ None → Moves at olds (up ++ name ∷ []) (up' ++ name' ∷ []) at' news → Ends at (AskRenameNew (up ++ name ∷ []) (up' ++ name' ∷ [])) (Ok Done) at'
new_moved at at' olds news up name up' name' tree folder apart free moves = new_done at at' olds news (up ++ name ∷ []) (up' ++ name' ∷ []) tree (leads_below at up' name' tree folder) apart free moves

-- the system failed
new_lost : {H : Type 0} (at at' : Tree) (olds news : H → Names → Type 0) (s t : Names) (error : DiskError) (errno : ℤ) → IsTree at → Resolves at t → AreApart s t → at t ≡ None → Renames at olds s t (Err error) at' news → Ends at (AskRenameNew s t) (Err (Failed errno)) at'
new_lost at at' olds news s t (Lost number) errno tree down apart free (inl none) = Before none.tree
new_lost at at' olds news s t (Lost number) errno tree down apart free (inr moves) = After Done (inl (new_done at at' olds news s t tree down apart free moves))
new_lost at at' olds news s t Absent errno tree down apart free none = Before none.1.tree
new_lost at at' olds news s t IsFolder errno tree down apart free none = Before none.2.tree
new_lost at at' olds news s t NotFolder errno tree down apart free none = Before none.2.tree
new_lost at at' olds news s t NotEmpty errno tree down apart free none = Before none.3.tree
new_lost at at' olds news s t Exists errno tree down apart free none = Before none.tree

pub new_not_moved : {H : Type 0} (at at' : Tree) (olds news : H → Names → Type 0) (up : Names) (name : Name) (up' : Names) (name' : Name) (error : DiskError) (trouble : Trouble) (errno : ℤ) → IsTree at → at up' ≡ Some Folder → AreApart (up ++ name ∷ []) (up' ++ name' ∷ []) → at (up' ++ name' ∷ []) ≡ None → Renames at olds (up ++ name ∷ []) (up' ++ name' ∷ []) (Err error) at' news → trouble ≡ Failed errno → Ends at (AskRenameNew (up ++ name ∷ []) (up' ++ name' ∷ [])) (Err trouble) at'
new_not_moved at at' olds news up name up' name' error trouble errno tree folder apart free none why =
    subst (λ (x : Trouble). Ends at (AskRenameNew (up ++ name ∷ []) (up' ++ name' ∷ [])) (Err x) at') (sym why) (new_lost at at' olds news (up ++ name ∷ []) (up' ++ name' ∷ []) error errno tree (leads_below at up' name' tree folder) apart free none)
