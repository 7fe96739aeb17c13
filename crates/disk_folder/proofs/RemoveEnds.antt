-- How calls end that remove what stands at a path, and what is open then.
use Rattle.std.proofs.Common.{Ok, Err, ◌≡◌, [], ◌∷◌, ◌++◌, Option, Some, None, IsSome, refl, sym, ap, ◌∙◌, subst, inl, inr}
use Rattle.std.specs.Option.{option_map}
use Rattle.paths.specs.Prefixes.{Name, Names}
use Rattle.backing.specs.declared.call.Answer.TheVariants.{Done}
use Rattle.payload.specs.declared.attributes.Kind.TheVariants as kinds
use Rattle.backing.specs.declared.entries.Item.{Item}
use Rattle.backing.specs.declared.entries.Item.TheVariants.{Folder, File, Link, Special}
use Rattle.backing.specs.Tree.{Tree, IsTree, IsOther, Resolves, kind_of, without}
use Rattle.backing.specs.Calls.{AskRemove, AskRemoveDir}
use Rattle.backing.proofs.Lawful.{some_item}
use Rattle.backing.proofs.Looking.{without_other}
use Rattle.backing.proofs.PathLemmas.{is_path-no}
use Rattle.disk.specs.Answers.{AllStayBut, Removes, RemovesDir, RemovesFile, RemovesFolder, Stays}
use Rattle.disk.specs.declared.error.DiskError.{DiskError}
use Rattle.disk.specs.declared.error.DiskError.TheVariants.{Absent, Exists, NotFolder, IsFolder, NotEmpty, Failed as Lost}
use Rattle.path_cache.specs.Cache.{kept_at}
use Rattle.disk_folder.specs.declared.look.Seen.{Seen}
use Rattle.disk_folder.specs.declared.open_cache.OpenCache.{OpenCache}
use Rattle.disk_folder.specs.declared.trouble.Trouble.{Trouble}
use Rattle.disk_folder.specs.declared.trouble.Trouble.TheVariants.{Refused, Failed}
use Rattle.disk_folder.specs.declared.trouble.Reason.TheVariants.{Root, Nothing, Taken, NoFolder, NoFile, NoLink, Folder as IsOne, Below, Names as HasNames}
use Rattle.disk_folder.specs.Changes.{IsFull, IsNoDir, IsWhyDirStays, IsWhyNotRemoved}
use Rattle.disk_folder.specs.Ends.{Ends, Before, After}
use Rattle.disk_folder.specs.Seen.{IsMissing, IsSeen}
use Rattle.disk_folder.specs.Standing.{AllStand, Forgets}
use Rattle.disk_folder.proofs.WayLemmas.{folder_yes, leads_below, some_from}
use Rattle.disk_folder.proofs.KeptCases.{below_root, left_cases, other_path, same_stand}

some_other : (o : Option Item) → IsOther o → IsSome o
some_other None h = absurd h
some_other (Some item) h = some_item (Some item) item refl

-- what is left in the cache stands
forgotten_stand : {H : Type 0} (at : Tree) (olds : H → Names → Type 0) (old new : OpenCache H) (q : Names) → Forgets old q new → AllStand at olds old → AllStand at olds new
forgotten_stand at olds old new q forgets all = record {
  each = λ p opened is. all.each p opened (left_cases (kept_at old.cache) q p opened (sym (forgets.kept p) ∙ is)).1;
}

-- where nothing has changed
same_left : {H : Type 0} (at at' : Tree) (olds news : H → Names → Type 0) (old new : OpenCache H) (q : Names) → Forgets old q new → Stays at olds at' news → AllStand at olds old → AllStand at' news new
same_left at at' olds news old new q forgets stays all = same_stand at at' olds news new stays (forgotten_stand at olds old new q forgets all)

-- where something was removed
gone_left : {H : Type 0} (at at' : Tree) (olds news : H → Names → Type 0) (old new : OpenCache H) (q : Names) → Forgets old q new → at' ≡ without at q → AllStayBut q olds news → AllStand at olds old → AllStand at' news new
gone_left {H} at at' olds news old new q forgets tree stay all = record {
  each = λ p opened is.
      let left = left_cases (kept_at old.cache) q p opened (sym (forgets.kept p) ∙ is) in
      let it = all.each p opened left.1 in
      let ne = other_path q p left.0 in
      record {
        handle = stay opened.handle p (is_path-no q p ne) it.handle;
        kind = ap (λ (t : Tree). option_map kind_of (t p)) tree ∙ (ap (λ (o : Option Item). option_map kind_of o) (without_other at q p ne) ∙ it.kind);
      };
}

-- WHAT IS NO FOLDER
pub removed_left : {H : Type 0} (at at' : Tree) (olds news : H → Names → Type 0) (old new : OpenCache H) (q : Names) → Forgets old q new → RemovesFile at olds q at' news → AllStand at olds old → AllStand at' news new
removed_left at at' olds news old new q forgets gone all = gone_left at at' olds news old new q forgets gone.tree gone.stay all

pub not_removed_left : {H : Type 0} (at at' : Tree) (olds news : H → Names → Type 0) (old new : OpenCache H) (q : Names) (error : DiskError) → Forgets old q new → Removes at olds q (Err error) at' news → AllStand at olds old → AllStand at' news new
not_removed_left at at' olds news old new q Absent forgets none all = same_left at at' olds news old new q forgets none.1 all
not_removed_left at at' olds news old new q IsFolder forgets none all = same_left at at' olds news old new q forgets none.1 all
not_removed_left at at' olds news old new q (Lost number) forgets (inl none) all = same_left at at' olds news old new q forgets none all
not_removed_left at at' olds news old new q (Lost number) forgets (inr gone) all = removed_left at at' olds news old new q forgets gone all
not_removed_left at at' olds news old new q Exists forgets none all = same_left at at' olds news old new q forgets none all
not_removed_left at at' olds news old new q NotFolder forgets none all = same_left at at' olds news old new q forgets none all
not_removed_left at at' olds news old new q NotEmpty forgets none all = same_left at at' olds news old new q forgets none all

removed_done : {H : Type 0} (at at' : Tree) (olds news : H → Names → Type 0) (q : Names) → Resolves at q → RemovesFile at olds q at' news → Ends at (AskRemove q) (Ok Done) at'
removed_done at at' olds news q down gone = ((down, (some_other (at q) gone.other, (gone.other, tt))), (refl, gone.tree))

pub removed_ends : {H : Type 0} (at at' : Tree) (olds news : H → Names → Type 0) (up : Names) (name : Name) → IsTree at → at up ≡ Some Folder → RemovesFile at olds (up ++ name ∷ []) at' news → Ends at (AskRemove (up ++ name ∷ [])) (Ok Done) at'
removed_ends at at' olds news up name t folder gone = removed_done at at' olds news (up ++ name ∷ []) (leads_below at up name t folder) gone

other_kept : {H : Type 0} (at at' : Tree) (olds news : H → Names → Type 0) (q : Names) (error : DiskError) (trouble : Trouble) → Resolves at q → Removes at olds q (Err error) at' news → IsWhyNotRemoved error trouble → Ends at (AskRemove q) (Err trouble) at'
other_kept at at' olds news q Absent trouble down none why = subst (λ (x : Trouble). Ends at (AskRemove q) (Err x) at') (sym why) (inr (down, inl (none.0, refl)), none.1.tree)
other_kept at at' olds news q IsFolder trouble down none why = subst (λ (x : Trouble). Ends at (AskRemove q) (Err x) at') (sym why) (inr (down, inr (some_from (at q) none.0, inl (none.0, refl))), none.1.tree)
other_kept at at' olds news q (Lost number) (Failed errno) down (inl none) why = Before none.tree
other_kept at at' olds news q (Lost number) (Failed errno) down (inr gone) why = After Done (inl (removed_done at at' olds news q down gone))
other_kept at at' olds news q (Lost number) (Refused reason) down none why = absurd why
other_kept at at' olds news q Exists (Failed errno) down none why = Before none.tree
other_kept at at' olds news q Exists (Refused reason) down none why = absurd why
other_kept at at' olds news q NotFolder (Failed errno) down none why = Before none.tree
other_kept at at' olds news q NotFolder (Refused reason) down none why = absurd why
other_kept at at' olds news q NotEmpty (Failed errno) down none why = Before none.tree
other_kept at at' olds news q NotEmpty (Refused reason) down none why = absurd why

pub not_removed_ends : {H : Type 0} (at at' : Tree) (olds news : H → Names → Type 0) (up : Names) (name : Name) (error : DiskError) (trouble : Trouble) → IsTree at → at up ≡ Some Folder → Removes at olds (up ++ name ∷ []) (Err error) at' news → IsWhyNotRemoved error trouble → Ends at (AskRemove (up ++ name ∷ [])) (Err trouble) at'
not_removed_ends at at' olds news up name error trouble t folder none why = other_kept at at' olds news (up ++ name ∷ []) error trouble (leads_below at up name t folder) none why

folder_item : (item : Item) → kinds.Folder ≡ kind_of item → item ≡ Folder
folder_item Folder e = refl
folder_item (File bytes) e = cc
folder_item (Link text) e = cc
folder_item (Special special) e = cc

-- what a look shows as a folder is no file
pub seen_folder_ends : (at : Tree) (up : Names) (name : Name) (seen : Seen) → IsTree at → at up ≡ Some Folder → IsSeen at (up ++ name ∷ []) seen → seen.kind ≡ kinds.Folder → Ends at (AskRemove (up ++ name ∷ [])) (Err (Refused IsOne)) at
seen_folder_ends at up name seen t folder it e =
    let one = folder_yes (at (up ++ name ∷ [])) (it.stands ∙ ap (λ (item : Item). Some item) (folder_item it.item (sym e ∙ it.kind))) in
    (inr (leads_below at up name t folder, inr (some_from (at (up ++ name ∷ [])) one, inl (one, refl))), refl)

-- nothing is seen
missing_other : (at : Tree) (q : Names) (trouble : Trouble) → Resolves at q → IsMissing at q trouble → Ends at (AskRemove q) (Err trouble) at
missing_other at q (Failed errno) down none = Before refl
missing_other at q (Refused Nothing) down none = (inr (down, inl (none, refl)), refl)
missing_other at q (Refused Root) down none = absurd none
missing_other at q (Refused Taken) down none = absurd none
missing_other at q (Refused NoFolder) down none = absurd none
missing_other at q (Refused IsOne) down none = absurd none
missing_other at q (Refused NoFile) down none = absurd none
missing_other at q (Refused NoLink) down none = absurd none
missing_other at q (Refused Below) down none = absurd none
missing_other at q (Refused HasNames) down none = absurd none

pub missing_ends : (at : Tree) (up : Names) (name : Name) (trouble : Trouble) → IsTree at → at up ≡ Some Folder → IsMissing at (up ++ name ∷ []) trouble → Ends at (AskRemove (up ++ name ∷ [])) (Err trouble) at
missing_ends at up name trouble t folder none = missing_other at (up ++ name ∷ []) trouble (leads_below at up name t folder) none

-- A FOLDER
pub removed_dir_left : {H : Type 0} (at at' : Tree) (olds news : H → Names → Type 0) (old new : OpenCache H) (q : Names) → Forgets old q new → RemovesFolder at olds q at' news → AllStand at olds old → AllStand at' news new
removed_dir_left at at' olds news old new q forgets gone all = gone_left at at' olds news old new q forgets gone.tree gone.stay all

pub not_removed_dir_left : {H : Type 0} (at at' : Tree) (olds news : H → Names → Type 0) (old new : OpenCache H) (q : Names) (error : DiskError) → Forgets old q new → RemovesDir at olds q (Err error) at' news → AllStand at olds old → AllStand at' news new
not_removed_dir_left at at' olds news old new q Absent forgets none all = same_left at at' olds news old new q forgets none.1 all
not_removed_dir_left at at' olds news old new q NotFolder forgets none all = same_left at at' olds news old new q forgets none.1 all
not_removed_dir_left at at' olds news old new q NotEmpty forgets none all = same_left at at' olds news old new q forgets none.2 all
not_removed_dir_left at at' olds news old new q (Lost number) forgets (inl none) all = same_left at at' olds news old new q forgets none all
not_removed_dir_left at at' olds news old new q (Lost number) forgets (inr gone) all = removed_dir_left at at' olds news old new q forgets gone all
not_removed_dir_left at at' olds news old new q Exists forgets none all = same_left at at' olds news old new q forgets none all
not_removed_dir_left at at' olds news old new q IsFolder forgets none all = same_left at at' olds news old new q forgets none all

removed_dir_done : {H : Type 0} (at at' : Tree) (olds news : H → Names → Type 0) (q : Names) → (q ≡ [] → ⊥) → Resolves at q → RemovesFolder at olds q at' news → Ends at (AskRemoveDir q) (Ok Done) at'
removed_dir_done at at' olds news q below down gone =
    ((below, (down, (some_from (at q) gone.folder, (gone.folder, (gone.bare, tt))))), (refl, gone.tree))

pub removed_dir_ends : {H : Type 0} (at at' : Tree) (olds news : H → Names → Type 0) (up : Names) (name : Name) → IsTree at → at up ≡ Some Folder → RemovesFolder at olds (up ++ name ∷ []) at' news → Ends at (AskRemoveDir (up ++ name ∷ [])) (Ok Done) at'
removed_dir_ends at at' olds news up name t folder gone = removed_dir_done at at' olds news (up ++ name ∷ []) (below_root up name) (leads_below at up name t folder) gone

dir_is_other : {H : Type 0} (at at' : Tree) (olds news : H → Names → Type 0) (q : Names) (trouble : Trouble) → (q ≡ [] → ⊥) → Resolves at q → RemovesDir at olds q (Err NotFolder) at' news → IsNoDir trouble → Ends at (AskRemoveDir q) (Err trouble) at'
dir_is_other at at' olds news q (Failed errno) below down none why = Before none.1.tree
dir_is_other at at' olds news q (Refused NoFolder) below down none why = (inr (below, inr (down, inr (some_other (at q) none.0, inl (none.0, refl)))), none.1.tree)
dir_is_other at at' olds news q (Refused Root) below down none why = absurd why
dir_is_other at at' olds news q (Refused Nothing) below down none why = absurd why
dir_is_other at at' olds news q (Refused Taken) below down none why = absurd why
dir_is_other at at' olds news q (Refused IsOne) below down none why = absurd why
dir_is_other at at' olds news q (Refused NoFile) below down none why = absurd why
dir_is_other at at' olds news q (Refused NoLink) below down none why = absurd why
dir_is_other at at' olds news q (Refused Below) below down none why = absurd why
dir_is_other at at' olds news q (Refused HasNames) below down none why = absurd why

dir_is_full : {H : Type 0} (at at' : Tree) (olds news : H → Names → Type 0) (q : Names) (trouble : Trouble) → (q ≡ [] → ⊥) → Resolves at q → RemovesDir at olds q (Err NotEmpty) at' news → IsFull trouble → Ends at (AskRemoveDir q) (Err trouble) at'
dir_is_full at at' olds news q (Failed errno) below down none why = Before none.2.tree
dir_is_full at at' olds news q (Refused HasNames) below down none why = (inr (below, inr (down, inr (some_from (at q) none.0, inr (none.0, inl (none.1, refl))))), none.2.tree)
dir_is_full at at' olds news q (Refused Root) below down none why = absurd why
dir_is_full at at' olds news q (Refused Nothing) below down none why = absurd why
dir_is_full at at' olds news q (Refused Taken) below down none why = absurd why
dir_is_full at at' olds news q (Refused NoFolder) below down none why = absurd why
dir_is_full at at' olds news q (Refused IsOne) below down none why = absurd why
dir_is_full at at' olds news q (Refused NoFile) below down none why = absurd why
dir_is_full at at' olds news q (Refused NoLink) below down none why = absurd why
dir_is_full at at' olds news q (Refused Below) below down none why = absurd why

dir_kept : {H : Type 0} (at at' : Tree) (olds news : H → Names → Type 0) (q : Names) (error : DiskError) (trouble : Trouble) → (q ≡ [] → ⊥) → Resolves at q → RemovesDir at olds q (Err error) at' news → IsWhyDirStays error trouble → Ends at (AskRemoveDir q) (Err trouble) at'
dir_kept at at' olds news q Absent trouble below down none why = subst (λ (x : Trouble). Ends at (AskRemoveDir q) (Err x) at') (sym why) (inr (below, inr (down, inl (none.0, refl))), none.1.tree)
dir_kept at at' olds news q NotFolder trouble below down none why = dir_is_other at at' olds news q trouble below down none why
dir_kept at at' olds news q NotEmpty trouble below down none why = dir_is_full at at' olds news q trouble below down none why
dir_kept at at' olds news q (Lost number) (Failed errno) below down (inl none) why = Before none.tree
dir_kept at at' olds news q (Lost number) (Failed errno) below down (inr gone) why = After Done (inl (removed_dir_done at at' olds news q below down gone))
dir_kept at at' olds news q (Lost number) (Refused reason) below down none why = absurd why
dir_kept at at' olds news q Exists (Failed errno) below down none why = Before none.tree
dir_kept at at' olds news q Exists (Refused reason) below down none why = absurd why
dir_kept at at' olds news q IsFolder (Failed errno) below down none why = Before none.tree
dir_kept at at' olds news q IsFolder (Refused reason) below down none why = absurd why

pub not_removed_dir_ends : {H : Type 0} (at at' : Tree) (olds news : H → Names → Type 0) (up : Names) (name : Name) (error : DiskError) (trouble : Trouble) → IsTree at → at up ≡ Some Folder → RemovesDir at olds (up ++ name ∷ []) (Err error) at' news → IsWhyDirStays error trouble → Ends at (AskRemoveDir (up ++ name ∷ [])) (Err trouble) at'
not_removed_dir_ends at at' olds news up name error trouble t folder none why = dir_kept at at' olds news (up ++ name ∷ []) error trouble (below_root up name) (leads_below at up name t folder) none why
