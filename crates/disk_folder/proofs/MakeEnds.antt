-- How calls end that make something, and what is open then.
use Rattle.std.proofs.Common.{ℕ, ℤ, Ok, Err, ◌≡◌, List, [], ◌∷◌, ◌++◌, Option, Some, None, refl, sym, ap, ◌∙◌, subst, inl, inr}
use Rattle.std.specs.Option.{option_map}
use Rattle.paths.specs.Prefixes.{Name, Names}
use Rattle.backing.specs.declared.call.Answer.TheVariants.{Done}
use Rattle.payload.specs.declared.attributes.Kind.{Kind}
use Rattle.payload.specs.declared.attributes.Kind.TheVariants as kinds
use Rattle.backing.specs.declared.entries.Item.{Item}
use Rattle.backing.specs.declared.entries.Item.TheVariants.{Folder, File, Link}
use Rattle.backing.specs.Tree.{Tree, IsTree, Resolves, kind_of}
use Rattle.backing.specs.Calls.{Asked, AskMake, AskMakeDir, AskMakeLink, Refuses, Test, tests_of}
use Rattle.backing.specs.Checks.{free_tests}
use Rattle.backing.proofs.Looking.{with_other, with_same}
use Rattle.disk.specs.Answers.{MakesItem, MakesNone}
use Rattle.disk.specs.declared.error.DiskError.{DiskError}
use Rattle.disk.specs.declared.error.DiskError.TheVariants.{Absent, Exists, NotFolder, IsFolder, NotEmpty, Failed as Lost}
use Rattle.disk_folder.specs.declared.open_cache.OpenCache.{OpenCache}
use Rattle.disk_folder.specs.declared.trouble.Trouble.{Trouble}
use Rattle.disk_folder.specs.declared.trouble.Trouble.TheVariants.{Refused, Failed}
use Rattle.disk_folder.specs.declared.trouble.Reason.TheVariants.{Root, Nothing, Taken, NoFolder, NoFile, NoLink, Folder as IsOne, Below, Names as HasNames}
use Rattle.disk_folder.specs.Changes.{IsTaken, IsWhyNotMade}
use Rattle.disk_folder.specs.Ends.{Ends, Before, After}
use Rattle.disk_folder.specs.Standing.{AllStand, Keeps}
use Rattle.disk_folder.specs.Troubles.{reason_errno}
use Rattle.disk_folder.specs.declared.opened.Open.{Open}
use Rattle.disk_folder.proofs.StandLemmas.{stand_keeps}
use Rattle.disk_folder.proofs.KeptCases.{same_stand}
use Rattle.disk_folder.proofs.WayLemmas.{leads_below}

-- something is made
made_ends : {H : Type 0} (at at' : Tree) (olds news : H → Names → Type 0) (q : Names) (permissions : Option ℕ) → Resolves at q → MakesItem at olds q (File []) at' news → Ends at (AskMake q permissions) (Ok Done) at'
made_ends at at' olds news q permissions down made = ((down, (made.free, tt)), (refl, made.tree))

made_dir_ends : {H : Type 0} (at at' : Tree) (olds news : H → Names → Type 0) (q : Names) (permissions : Option ℕ) → Resolves at q → MakesItem at olds q Folder at' news → Ends at (AskMakeDir q permissions) (Ok Done) at'
made_dir_ends at at' olds news q permissions down made = ((down, (made.free, tt)), (refl, made.tree))

made_link_ends : {H : Type 0} (at at' : Tree) (olds news : H → Names → Type 0) (q : Names) (text : List ℕ) → Resolves at q → MakesItem at olds q (Link text) at' news → Ends at (AskMakeLink q text) (Ok Done) at'
made_link_ends at at' olds news q text down made = ((down, (made.free, tt)), (refl, made.tree))

-- what stands at q refuses what is to be made there
taken_ends : {H : Type 0} (at at' : Tree) (olds news : H → Names → Type 0) (q : Names) (item : Item) (call : Asked) (trouble : Trouble) → tests_of None call ≡ free_tests q → Resolves at q → MakesNone at olds q item Exists at' news → IsTaken trouble → Ends at call (Err trouble) at'
taken_ends at at' olds news q item call (Failed errno) tests down none why = Before none.1.tree
taken_ends at at' olds news q item call (Refused Taken) tests down none why = (subst (λ (ts : List Test). Refuses at ts (reason_errno Taken)) (sym tests) (inr (down, inl (none.0, refl))), none.1.tree)
taken_ends at at' olds news q item call (Refused Root) tests down none why = absurd why
taken_ends at at' olds news q item call (Refused Nothing) tests down none why = absurd why
taken_ends at at' olds news q item call (Refused NoFolder) tests down none why = absurd why
taken_ends at at' olds news q item call (Refused IsOne) tests down none why = absurd why
taken_ends at at' olds news q item call (Refused NoFile) tests down none why = absurd why
taken_ends at at' olds news q item call (Refused NoLink) tests down none why = absurd why
taken_ends at at' olds news q item call (Refused Below) tests down none why = absurd why
taken_ends at at' olds news q item call (Refused HasNames) tests down none why = absurd why

lost_made : {H : Type 0} (at at' : Tree) (olds news : H → Names → Type 0) (q : Names) (item : Item) (call : Asked) (number errno : ℤ) → (MakesItem at olds q item at' news → Ends at call (Ok Done) at') → MakesNone at olds q item (Lost number) at' news → Ends at call (Err (Failed errno)) at'
lost_made at at' olds news q item call number errno all (inl none) = Before none.tree
lost_made at at' olds news q item call number errno all (inr made) = After Done (inl (all made))

-- nothing is made, or the system failed after it was
not_made_ends : {H : Type 0} (at at' : Tree) (olds news : H → Names → Type 0) (q : Names) (item : Item) (call : Asked) (error : DiskError) (trouble : Trouble) → tests_of None call ≡ free_tests q → Resolves at q → (MakesItem at olds q item at' news → Ends at call (Ok Done) at') → MakesNone at olds q item error at' news → IsWhyNotMade error trouble → Ends at call (Err trouble) at'
not_made_ends at at' olds news q item call Exists trouble tests down all none why = taken_ends at at' olds news q item call trouble tests down none why
not_made_ends at at' olds news q item call (Lost number) (Failed errno) tests down all none why = lost_made at at' olds news q item call number errno all none
not_made_ends at at' olds news q item call (Lost number) (Refused reason) tests down all none why = absurd why
not_made_ends at at' olds news q item call Absent (Failed errno) tests down all none why = Before none.tree
not_made_ends at at' olds news q item call Absent (Refused reason) tests down all none why = absurd why
not_made_ends at at' olds news q item call NotFolder (Failed errno) tests down all none why = Before none.tree
not_made_ends at at' olds news q item call NotFolder (Refused reason) tests down all none why = absurd why
not_made_ends at at' olds news q item call IsFolder (Failed errno) tests down all none why = Before none.tree
not_made_ends at at' olds news q item call IsFolder (Refused reason) tests down all none why = absurd why
not_made_ends at at' olds news q item call NotEmpty (Failed errno) tests down all none why = Before none.tree
not_made_ends at at' olds news q item call NotEmpty (Refused reason) tests down all none why = absurd why

free_other : (at : Tree) (q p : Names) (kind : Kind) → at q ≡ None → option_map kind_of (at p) ≡ Some kind → q ≡ p → ⊥
free_other at q p kind free stands e =
    let gone : option_map kind_of (at p) ≡ None = ap (λ (r : Names). option_map kind_of (at r)) (sym e) ∙ ap (λ (o : Option Item). option_map kind_of o) free in
    let wrong : Some kind ≡ None = sym stands ∙ gone in cc

-- what is open stands where something is made
pub made_stand : {H : Type 0} (at at' : Tree) (olds news : H → Names → Type 0) (c : OpenCache H) (q : Names) (item : Item) → MakesItem at olds q item at' news → AllStand at olds c → AllStand at' news c
made_stand at at' olds news c q item made all = record {
  each = λ p opened is.
      let it = all.each p opened is in
      record {
        handle = made.stay opened.handle p it.handle;
        kind = ap (λ (t : Tree). option_map kind_of (t p)) made.tree ∙ (ap (λ (o : Option Item). option_map kind_of o) (with_other at q item p (free_other at q p opened.kind made.free it.kind)) ∙ it.kind);
      };
}

pub not_made_stand : {H : Type 0} (at at' : Tree) (olds news : H → Names → Type 0) (c : OpenCache H) (q : Names) (item : Item) (error : DiskError) → MakesNone at olds q item error at' news → AllStand at olds c → AllStand at' news c
not_made_stand at at' olds news c q item Exists none all = same_stand at at' olds news c none.1 all
not_made_stand at at' olds news c q item (Lost number) (inl none) all = same_stand at at' olds news c none all
not_made_stand at at' olds news c q item (Lost number) (inr made) all = made_stand at at' olds news c q item made all
not_made_stand at at' olds news c q item Absent none all = same_stand at at' olds news c none all
not_made_stand at at' olds news c q item NotFolder none all = same_stand at at' olds news c none all
not_made_stand at at' olds news c q item IsFolder none all = same_stand at at' olds news c none all
not_made_stand at at' olds news c q item NotEmpty none all = same_stand at at' olds news c none all

-- what was made is of its kind
pub made_kind : {H : Type 0} (at at' : Tree) (olds news : H → Names → Type 0) (q : Names) (item : Item) → MakesItem at olds q item at' news → option_map kind_of (at' q) ≡ Some (kind_of item)
made_kind at at' olds news q item made = ap (λ (t : Tree). option_map kind_of (t q)) made.tree ∙ ap (λ (o : Option Item). option_map kind_of o) (with_same at q item)

-- in an open folder
pub make_ends : {H : Type 0} (at at' : Tree) (olds news : H → Names → Type 0) (up : Names) (name : Name) (permissions : Option ℕ) → IsTree at → at up ≡ Some Folder → MakesItem at olds (up ++ name ∷ []) (File []) at' news → Ends at (AskMake (up ++ name ∷ []) permissions) (Ok Done) at'
make_ends at at' olds news up name permissions t folder made = made_ends at at' olds news (up ++ name ∷ []) permissions (leads_below at up name t folder) made

pub make_dir_ends : {H : Type 0} (at at' : Tree) (olds news : H → Names → Type 0) (up : Names) (name : Name) (permissions : Option ℕ) → IsTree at → at up ≡ Some Folder → MakesItem at olds (up ++ name ∷ []) Folder at' news → Ends at (AskMakeDir (up ++ name ∷ []) permissions) (Ok Done) at'
make_dir_ends at at' olds news up name permissions t folder made = made_dir_ends at at' olds news (up ++ name ∷ []) permissions (leads_below at up name t folder) made

pub make_link_ends : {H : Type 0} (at at' : Tree) (olds news : H → Names → Type 0) (up : Names) (name : Name) (text : List ℕ) → IsTree at → at up ≡ Some Folder → MakesItem at olds (up ++ name ∷ []) (Link text) at' news → Ends at (AskMakeLink (up ++ name ∷ []) text) (Ok Done) at'
make_link_ends at at' olds news up name text t folder made = made_link_ends at at' olds news (up ++ name ∷ []) text (leads_below at up name t folder) made

pub no_file_made : {H : Type 0} (at at' : Tree) (olds news : H → Names → Type 0) (up : Names) (name : Name) (permissions : Option ℕ) (error : DiskError) (trouble : Trouble) → IsTree at → at up ≡ Some Folder → MakesNone at olds (up ++ name ∷ []) (File []) error at' news → IsWhyNotMade error trouble → Ends at (AskMake (up ++ name ∷ []) permissions) (Err trouble) at'
no_file_made at at' olds news up name permissions error trouble t folder none why =
    let q = up ++ name ∷ [] in
    let down = leads_below at up name t folder in
    not_made_ends at at' olds news q (File []) (AskMake q permissions) error trouble refl down (λ made. made_ends at at' olds news q permissions down made) none why

pub no_dir_made : {H : Type 0} (at at' : Tree) (olds news : H → Names → Type 0) (up : Names) (name : Name) (permissions : Option ℕ) (error : DiskError) (trouble : Trouble) → IsTree at → at up ≡ Some Folder → MakesNone at olds (up ++ name ∷ []) Folder error at' news → IsWhyNotMade error trouble → Ends at (AskMakeDir (up ++ name ∷ []) permissions) (Err trouble) at'
no_dir_made at at' olds news up name permissions error trouble t folder none why =
    let q = up ++ name ∷ [] in
    let down = leads_below at up name t folder in
    not_made_ends at at' olds news q Folder (AskMakeDir q permissions) error trouble refl down (λ made. made_dir_ends at at' olds news q permissions down made) none why

pub no_link_made : {H : Type 0} (at at' : Tree) (olds news : H → Names → Type 0) (up : Names) (name : Name) (text : List ℕ) (error : DiskError) (trouble : Trouble) → IsTree at → at up ≡ Some Folder → MakesNone at olds (up ++ name ∷ []) (Link text) error at' news → IsWhyNotMade error trouble → Ends at (AskMakeLink (up ++ name ∷ []) text) (Err trouble) at'
no_link_made at at' olds news up name text error trouble t folder none why =
    let q = up ++ name ∷ [] in
    let down = leads_below at up name t folder in
    not_made_ends at at' olds news q (Link text) (AskMakeLink q text) error trouble refl down (λ made. made_link_ends at at' olds news q text down made) none why

-- what was made and is kept stands
pub stand_kept : {H : Type 0} (at : Tree) (stands : H → Names → Type 0) (old new : OpenCache H) (q : Names) (opened : Open H) (handle : H) → Keeps old q opened new → (opened.kind ≡ kinds.File) × (opened.handle ≡ handle) → stands handle q → option_map kind_of (at q) ≡ Some kinds.File → AllStand at stands old → AllStand at stands new
stand_kept {H} at stands old new q opened handle keeps is there kind all =
    stand_keeps at stands old new q opened keeps (record { handle = subst (λ (h : H). stands h q) (sym is.1) there; kind = kind ∙ ap Some (sym is.0) }) all
