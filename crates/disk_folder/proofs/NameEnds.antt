-- How a call ends that gives what stands at s the further name t, and what is open then.
use Rattle.std.proofs.Common.{◌≡◌, ◌++◌, ◌∷◌, [], Some, IsSome, Err, refl, sym, subst, inl, inr}
use Rattle.paths.specs.Prefixes.{Name, Names}
use Rattle.backing.specs.declared.entries.Item.TheVariants.{Folder}
use Rattle.backing.specs.Tree.{Tree, IsTree, Resolves}
use Rattle.backing.specs.Calls.{AskLink, Free, OneName, Reached}
use Rattle.backing.specs.Checks.{present_tests}
use Rattle.backing.proofs.Tests.{refuses_first}
use Rattle.disk.specs.Answers.{Links}
use Rattle.disk.specs.declared.error.DiskError.{DiskError}
use Rattle.disk.specs.declared.error.DiskError.TheVariants.{Absent, Exists, NotFolder, IsFolder, NotEmpty, Failed as Lost}
use Rattle.disk_folder.specs.declared.open_cache.OpenCache.{OpenCache}
use Rattle.disk_folder.specs.declared.trouble.Trouble.{Trouble}
use Rattle.disk_folder.specs.declared.trouble.Trouble.TheVariants.{Refused, Failed}
use Rattle.disk_folder.specs.declared.trouble.Reason.TheVariants.{Root, Nothing, Taken, NoFolder, NoFile, NoLink, Folder as IsOne, Below, Names as HasNames}
use Rattle.disk_folder.specs.Changes.{IsTaken, IsWhyNotLinked}
use Rattle.disk_folder.specs.Ends.{Ends, Before, IsRefused}
use Rattle.disk_folder.specs.Standing.{AllStand}
use Rattle.disk_folder.specs.Troubles.{IsStopped, reason_errno}
use Rattle.disk_folder.proofs.KeptCases.{below_root, same_stand}
use Rattle.disk_folder.proofs.WayLemmas.{leads, leads_below}

-- what is wrong with the source
pub source_ends : (at : Tree) (s t : Names) (trouble : Trouble) → (s ≡ [] → ⊥) → (t ≡ [] → ⊥) → IsRefused at (present_tests s) trouble → Ends at (AskLink s t) (Err trouble) at
source_ends at s t (Failed errno) low_s low_t refused = Before refl
source_ends at s t (Refused reason) low_s low_t refused = (inr (low_s, inr (low_t, refuses_first at (present_tests s) (Reached t ∷ Free t ∷ OneName ∷ []) (reason_errno reason) refused)), refl)

-- no way leads to s
pub source_stopped : (at : Tree) (s : Names) (trouble : Trouble) → IsStopped at s trouble → IsRefused at (present_tests s) trouble
source_stopped at s (Failed errno) stopped = tt
source_stopped at s (Refused reason) stopped = inl stopped

-- something stands at s, and no way leads to t
pub target_stopped : (at : Tree) (s t : Names) (trouble : Trouble) → IsTree at → (s ≡ [] → ⊥) → (t ≡ [] → ⊥) → IsSome (at s) → IsStopped at t trouble → Ends at (AskLink s t) (Err trouble) at
target_stopped at s t (Failed errno) tree low_s low_t some stopped = Before refl
target_stopped at s t (Refused reason) tree low_s low_t some stopped = (inr (low_s, inr (low_t, inr (leads at s tree some, inr (some, inl stopped)))), refl)

-- something stands at t
taken_ends : {H : Type 0} (at at' : Tree) (olds news : H → Names → Type 0) (s t : Names) (trouble : Trouble) → Resolves at s → Resolves at t → (s ≡ [] → ⊥) → (t ≡ [] → ⊥) → Links at olds s t (Err Exists) at' news → IsTaken trouble → Ends at (AskLink s t) (Err trouble) at'
taken_ends at at' olds news s t (Failed errno) down_s down_t low_s low_t none why = Before none.2.tree
taken_ends at at' olds news s t (Refused Taken) down_s down_t low_s low_t none why = (inr (low_s, inr (low_t, inr (down_s, inr (none.0, inr (down_t, inl (none.1, refl)))))), none.2.tree)
taken_ends at at' olds news s t (Refused Root) down_s down_t low_s low_t none why = absurd why
taken_ends at at' olds news s t (Refused Nothing) down_s down_t low_s low_t none why = absurd why
taken_ends at at' olds news s t (Refused NoFolder) down_s down_t low_s low_t none why = absurd why
taken_ends at at' olds news s t (Refused IsOne) down_s down_t low_s low_t none why = absurd why
taken_ends at at' olds news s t (Refused NoFile) down_s down_t low_s low_t none why = absurd why
taken_ends at at' olds news s t (Refused NoLink) down_s down_t low_s low_t none why = absurd why
taken_ends at at' olds news s t (Refused Below) down_s down_t low_s low_t none why = absurd why
taken_ends at at' olds news s t (Refused HasNames) down_s down_t low_s low_t none why = absurd why

-- no further name is given
none_ends : {H : Type 0} (at at' : Tree) (olds news : H → Names → Type 0) (s t : Names) (error : DiskError) (trouble : Trouble) → Resolves at s → Resolves at t → (s ≡ [] → ⊥) → (t ≡ [] → ⊥) → Links at olds s t (Err error) at' news → IsWhyNotLinked error trouble → Ends at (AskLink s t) (Err trouble) at'
none_ends at at' olds news s t Absent trouble down_s down_t low_s low_t none why =
    subst (λ (x : Trouble). Ends at (AskLink s t) (Err x) at') (sym why) (inr (low_s, inr (low_t, inr (down_s, inl (none.0, refl)))), none.1.tree)
none_ends at at' olds news s t Exists trouble down_s down_t low_s low_t none why = taken_ends at at' olds news s t trouble down_s down_t low_s low_t none why
none_ends at at' olds news s t (Lost number) (Failed errno) down_s down_t low_s low_t none why = Before none.tree
none_ends at at' olds news s t (Lost number) (Refused reason) down_s down_t low_s low_t none why = absurd why
none_ends at at' olds news s t NotFolder (Failed errno) down_s down_t low_s low_t none why = Before none.tree
none_ends at at' olds news s t NotFolder (Refused reason) down_s down_t low_s low_t none why = absurd why
none_ends at at' olds news s t IsFolder (Failed errno) down_s down_t low_s low_t none why = Before none.tree
none_ends at at' olds news s t IsFolder (Refused reason) down_s down_t low_s low_t none why = absurd why
none_ends at at' olds news s t NotEmpty (Failed errno) down_s down_t low_s low_t none why = Before none.tree
none_ends at at' olds news s t NotEmpty (Refused reason) down_s down_t low_s low_t none why = absurd why

-- from an open folder to an open folder
pub not_linked_ends : {H : Type 0} (at at' : Tree) (olds news : H → Names → Type 0) (up : Names) (name : Name) (up' : Names) (name' : Name) (error : DiskError) (trouble : Trouble) → IsTree at → at up ≡ Some Folder → at up' ≡ Some Folder → Links at olds (up ++ name ∷ []) (up' ++ name' ∷ []) (Err error) at' news → IsWhyNotLinked error trouble → Ends at (AskLink (up ++ name ∷ []) (up' ++ name' ∷ [])) (Err trouble) at'
not_linked_ends at at' olds news up name up' name' error trouble tree folder folder' none why =
    none_ends at at' olds news (up ++ name ∷ []) (up' ++ name' ∷ []) error trouble (leads_below at up name tree folder) (leads_below at up' name' tree folder') (below_root up name) (below_root up' name') none why

-- what is open stands where it stood
pub not_linked_stand : {H : Type 0} (at at' : Tree) (olds news : H → Names → Type 0) (c : OpenCache H) (s t : Names) (error : DiskError) → Links at olds s t (Err error) at' news → AllStand at olds c → AllStand at' news c
not_linked_stand at at' olds news c s t Absent none all = same_stand at at' olds news c none.1 all
not_linked_stand at at' olds news c s t Exists none all = same_stand at at' olds news c none.2 all
not_linked_stand at at' olds news c s t (Lost number) none all = same_stand at at' olds news c none all
not_linked_stand at at' olds news c s t NotFolder none all = same_stand at at' olds news c none all
not_linked_stand at at' olds news c s t IsFolder none all = same_stand at at' olds news c none all
not_linked_stand at at' olds news c s t NotEmpty none all = same_stand at at' olds news c none all
