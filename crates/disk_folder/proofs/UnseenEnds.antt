-- How a move ends that no look came before.
use Rattle.std.proofs.Common.{Option, Result, Ok, Err, ◌≡◌, Some, None, false, length, sym, ap, ◌∙◌, subst, arith, inl, inr}
use Rattle.std.proofs.lemmas.Bool.{cases_Bool, true≢false}
use Rattle.std.specs.Option.{option_map}
use Rattle.paths.specs.Prefixes.{Names, is_prefix}
use Rattle.paths.proofs.PrefixLemmas.{is_prefix-same, is_prefix-whole}
use Rattle.backing.specs.declared.call.Answer.{Answer}
use Rattle.backing.specs.declared.call.Answer.TheVariants.{Done}
use Rattle.backing.specs.Tree.{Tree, IsTree, Resolves}
use Rattle.backing.specs.Calls.{Asked, AskRename, AskRenameNew}
use Rattle.disk.specs.Answers.{AreApart, Renames, Stays}
use Rattle.disk.specs.declared.error.DiskError.{DiskError}
use Rattle.disk.specs.declared.error.DiskError.TheVariants.{Absent, Exists, NotFolder, IsFolder, NotEmpty, Failed as Lost}
use Rattle.disk_folder.specs.declared.trouble.Trouble.{Trouble}
use Rattle.disk_folder.specs.declared.trouble.Trouble.TheVariants.{Refused, Failed}
use Rattle.disk_folder.specs.Ends.{Ends, EndsOrStays, Before, After}
use Rattle.disk_folder.specs.Moving.{IsLost, MovesOrStays}
use Rattle.disk_folder.proofs.MoveEnds.{apart_low, moved_done}
use Rattle.disk_folder.proofs.NewEnds.{new_done}

-- of two paths as long as each other both lead to the other, or neither
pub apart_long : (s t : Names) → length s ≡ length t → is_prefix s t ≡ false → is_prefix t s ≡ false
apart_long s t long far = elim (cases_Bool (is_prefix t s)) [
  | inl near ↦ absurd (true≢false (sym (is_prefix-same t) ∙ (ap (λ (q : Names). is_prefix q t) (is_prefix-whole t s near (omega (arith, long))) ∙ far)))
  | inr far' ↦ far'
]

pub unseen_ends : {H : Type 0} (at at' : Tree) (olds news : H → Names → Type 0) (s t : Names) (result : Option (Result Answer Trouble)) → IsTree at → Resolves at t → AreApart s t → MovesOrStays at olds s t result at' news → EndsOrStays at (AskRename s t) result at'
unseen_ends at at' olds news s t (Some (Ok answer)) tree down apart told =
    subst (λ (a : Answer). Ends at (AskRename s t) (Ok a) at') (sym told.0) (moved_done at at' olds news s t tree (apart_low s t apart.not_into) (apart_low t s apart.not_over) down apart told.1)
unseen_ends at at' olds news s t (Some (Err (Failed errno))) tree down apart (inl none) = Before none.tree
unseen_ends at at' olds news s t (Some (Err (Failed errno))) tree down apart (inr moves) = After Done (inl (moved_done at at' olds news s t tree (apart_low s t apart.not_into) (apart_low t s apart.not_over) down apart moves))
unseen_ends at at' olds news s t (Some (Err (Refused reason))) tree down apart told = absurd told
unseen_ends at at' olds news s t None tree down apart told = told.tree

pub unseen_new_ends : {H : Type 0} (at at' : Tree) (olds news : H → Names → Type 0) (s t : Names) (result : Option (Result Answer Trouble)) → IsTree at → Resolves at t → AreApart s t → at t ≡ None → MovesOrStays at olds s t result at' news → EndsOrStays at (AskRenameNew s t) result at'
unseen_new_ends at at' olds news s t (Some (Ok answer)) tree down apart free told =
    subst (λ (a : Answer). Ends at (AskRenameNew s t) (Ok a) at') (sym told.0) (new_done at at' olds news s t tree down apart free told.1)
unseen_new_ends at at' olds news s t (Some (Err (Failed errno))) tree down apart free (inl none) = Before none.tree
unseen_new_ends at at' olds news s t (Some (Err (Failed errno))) tree down apart free (inr moves) = After Done (inl (new_done at at' olds news s t tree down apart free moves))
unseen_new_ends at at' olds news s t (Some (Err (Refused reason))) tree down apart free told = absurd told
unseen_new_ends at at' olds news s t None tree down apart free told = told.tree

-- a call that comes after nothing was changed ends as on the tree before
pub ends_after : (at mid new : Tree) (call : Asked) (result : Result Answer Trouble) → mid ≡ at → Ends mid call result new → Ends at call result new
ends_after at mid new call result same ends = subst (λ (a : Tree). Ends a call result new) same ends

-- an error of the system, as it is told
lost_as : {H : Type 0} (at at' : Tree) (olds news : H → Names → Type 0) (s t : Names) (result : Option (Result Answer Trouble)) (told other : Option Trouble) → result ≡ option_map (λ (trouble : Trouble). Err trouble) told → told ≡ other → MovesOrStays at olds s t (option_map (λ (trouble : Trouble). Err trouble) other) at' news → MovesOrStays at olds s t result at' news
lost_as at at' olds news s t result told other same is moves =
    subst (λ (r : Option (Result Answer Trouble)). MovesOrStays at olds s t r at' news) (sym (same ∙ ap (λ (o : Option Trouble). option_map (λ (trouble : Trouble). Err trouble) o) is)) moves

lost_moves : {H : Type 0} (at at' : Tree) (olds news : H → Names → Type 0) (s t : Names) (result : Option (Result Answer Trouble)) (error : DiskError) (told : Option Trouble) → result ≡ option_map (λ (trouble : Trouble). Err trouble) told → IsLost error told → Renames at olds s t (Err error) at' news → MovesOrStays at olds s t result at' news
lost_moves at at' olds news s t result (Lost errno) told same is none = lost_as at at' olds news s t result told (Some (Failed errno)) same is none
lost_moves at at' olds news s t result Absent told same is none = lost_as at at' olds news s t result told None same is none.1
lost_moves at at' olds news s t result IsFolder told same is none = lost_as at at' olds news s t result told None same is none.2
lost_moves at at' olds news s t result NotFolder told same is none = lost_as at at' olds news s t result told None same is none.2
lost_moves at at' olds news s t result NotEmpty told same is none = lost_as at at' olds news s t result told None same is none.3
lost_moves at at' olds news s t result Exists told same is none = lost_as at at' olds news s t result told None same is none

-- a failure that is told
pub told_moves : {H : Type 0} (at at' : Tree) (olds news : H → Names → Type 0) (s t : Names) (error : DiskError) (told : Option Trouble) (trouble : Trouble) → told ≡ Some trouble → IsLost error told → Renames at olds s t (Err error) at' news → MovesOrStays at olds s t (Some (Err trouble)) at' news
told_moves at at' olds news s t error told trouble some is renames = lost_moves at at' olds news s t (Some (Err trouble)) error told (ap (λ (o : Option Trouble). option_map (λ (trouble : Trouble). Err trouble) o) (sym some)) is renames

-- nothing is changed where nothing is told
pub untold_stays : {H : Type 0} (at at' : Tree) (olds news : H → Names → Type 0) (s t : Names) (error : DiskError) (told : Option Trouble) → told ≡ None → IsLost error told → Renames at olds s t (Err error) at' news → Stays at olds at' news
untold_stays at at' olds news s t error told none is renames = lost_moves at at' olds news s t None error told (ap (λ (o : Option Trouble). option_map (λ (trouble : Trouble). Err trouble) o) (sym none)) is renames
