-- How a rename ends, and what is open then.
use Rattle.std.specs.Prelude.{IsTrue}
use Rattle.std.proofs.Common.{ℤ, Result, Ok, Err, IfOk, OnOk, ◌≡◌, ◌&&◌, Bool, true, false, [], ◌∷◌, ◌++◌, Option, Some, None, IsSome, length, drop, refl, sym, ap, ◌∙◌, subst, inl, inr}
use Rattle.std.specs.Option.{option_map}
use Rattle.std.proofs.lemmas.Bool.{cond-true, cond-false, true≢false}
use Rattle.paths.specs.Prefixes.{Name, Names, is_name, is_prefix}
use Rattle.paths.proofs.PrefixLemmas.{is_name-true, is_name-yes, is_prefix-append, drop-append}
use Rattle.backing.specs.declared.call.Answer.TheVariants.{Done}
use Rattle.disk_folder.specs.declared.opened.Entry.{Entry}
use Rattle.disk_folder.proofs.StandLemmas.{folder_keeps_all, held_keeps_all}
use Rattle.backing.specs.declared.entries.Item.{Item}
use Rattle.backing.specs.declared.entries.Item.TheVariants.{Folder}
use Rattle.backing.specs.Tree.{Tree, IsTree, Resolves, is_path, kind_of, moved}
use Rattle.backing.specs.Calls.{AskRename, PassesAll, Refuses, tests_of, unless}
use Rattle.backing.specs.Checks.{room_tests}
use Rattle.backing.proofs.PathLemmas.{is_path-no, is_path-yes}
use Rattle.backing.proofs.Relocating.{moved_below, moved_else, prefix_cases, prefix_of_root}
use Rattle.disk.specs.Answers.{AreApart, Moves, Renames, Stays, new_path}
use Rattle.disk.specs.declared.error.DiskError.{DiskError}
use Rattle.disk.specs.declared.error.DiskError.TheVariants.{Absent, Exists, NotFolder, IsFolder, NotEmpty, Failed as Lost}
use Rattle.path_cache.specs.Cache.{kept_at, root_alone, IsRelocated}
use Rattle.disk_folder.proofs.KeptCases.{below_root, other_path, relocated_kept, root_cases, same_stand}
use Rattle.disk_folder.specs.declared.opened.Open.{Open}
use Rattle.disk_folder.specs.declared.open_cache.OpenCache.{OpenCache}
use Rattle.disk_folder.specs.declared.trouble.Trouble.{Trouble}
use Rattle.disk_folder.specs.declared.trouble.Trouble.TheVariants.{Refused, Failed}
use Rattle.disk_folder.specs.declared.trouble.Reason.TheVariants.{Root, Nothing, Taken, NoFolder, NoFile, NoLink, Folder as IsOne, Below, Names as HasNames}
use Rattle.disk_folder.specs.Changes.{IsFull}
use Rattle.disk_folder.specs.Ends.{Ends, Before, After}
use Rattle.disk_folder.specs.Moving.{Follows, IsTold, IsWhyNotMoved}
use Rattle.disk_folder.specs.Standing.{AllStand, IsEntryOf, IsStanding, KeepsAll, StandsIn}
use Rattle.disk_folder.specs.Troubles.{IsStopped, reason_errno}
use Rattle.disk_folder.proofs.WayLemmas.{other_no_folder, leads, leads_below}

-- what is below s is not below t, if neither leads to the other
apart_more : (y x : Name) (t s more : Names) (b : Bool) → is_name y x ≡ b → is_prefix (x ∷ s) (y ∷ t) ≡ false → is_prefix (y ∷ t) (x ∷ s) ≡ false → (is_prefix s t ≡ false → is_prefix t s ≡ false → is_prefix t (s ++ more) ≡ false) → is_prefix (y ∷ t) ((x ∷ s) ++ more) ≡ false
apart_more y x t s more false e into over below = ap (λ (c : Bool). c && is_prefix t (s ++ more)) e
apart_more y x t s more true e into over below =
    let back : is_name x y ≡ true = is_name-yes x y (sym (is_name-true y x e)) in
    let low : is_prefix s t ≡ false = sym (ap (λ (c : Bool). c && is_prefix s t) back) ∙ into in
    let high : is_prefix t s ≡ false = sym (ap (λ (c : Bool). c && is_prefix t s) e) ∙ over in
    ap (λ (c : Bool). c && is_prefix t (s ++ more)) e ∙ below low high

apart_below : (t s more : Names) → is_prefix s t ≡ false → is_prefix t s ≡ false → is_prefix t (s ++ more) ≡ false
apart_below [] s more into over = absurd (true≢false over)
apart_below (y ∷ t) [] more into over = absurd (true≢false into)
apart_below (y ∷ t) (x ∷ s) more into over = apart_more y x t s more (is_name y x) refl into over (λ low high. apart_below t s more low high)

-- where a path leads after the move stands what stood there before
new_path_in : (s t more : Names) → new_path s t (s ++ more) ≡ t ++ more
new_path_in s t more = cond-true (is_prefix s (s ++ more)) (t ++ drop (length s) (s ++ more)) (s ++ more) (is_prefix-append s more) ∙ ap (λ (r : Names). t ++ r) (drop-append s more)

new_path_out : (s t p : Names) → is_prefix s p ≡ false → new_path s t p ≡ p
new_path_out s t p far = cond-false (is_prefix s p) (t ++ drop (length s) p) p far

moved_new_path : (at : Tree) (s t p : Names) → is_prefix t p ≡ false → moved at s t (new_path s t p) ≡ at p
moved_new_path at s t p far = elim (prefix_cases s p) [
  | inl (more, path) ↦ ap (λ (q : Names). moved at s t (new_path s t q)) path ∙ (ap (λ (q : Names). moved at s t q) (new_path_in s t more) ∙ (moved_below at s t more ∙ ap at (sym path)))
  | inr out ↦ ap (λ (q : Names). moved at s t q) (new_path_out s t p out) ∙ moved_else at s t p far out
]

-- WHAT IS OPEN STANDS UNDER ITS NEW PATH
moved_stands : {H : Type 0} (at at' : Tree) (olds news : H → Names → Type 0) (s t p : Names) (opened : Open H) → Moves at olds s t at' news → is_prefix t p ≡ false → IsStanding at olds p opened → IsStanding at' news (new_path s t p) opened
moved_stands at at' olds news s t p opened moves far it = record {
  handle = moves.stay opened.handle p far it.handle;
  kind = ap (λ (a : Tree). option_map kind_of (a (new_path s t p))) moves.tree ∙ (ap (λ (o : Option Item). option_map kind_of o) (moved_new_path at s t p far) ∙ it.kind);
}

pub follows_stand : {H : Type 0} (at at' : Tree) (olds news : H → Names → Type 0) (old new : OpenCache H) (s t : Names) → Follows old s t new → AreApart s t → Moves at olds s t at' news → AllStand at olds old → AllStand at' news new
follows_stand {H} at at' olds news old new s t follows apart moves all = record {
  each = λ p opened is. elim (follows.each p opened is) [
    | inl it ↦
        let far = apart_below t s it.0 apart.not_into apart.not_over in
        let stands = moved_stands at at' olds news s t (s ++ it.0) opened moves far (all.each (s ++ it.0) opened it.2) in
        subst (λ (q : Names). IsStanding at' news q opened) (new_path_in s t it.0 ∙ sym it.1) stands
    | inr it ↦ subst (λ (q : Names). IsStanding at' news q opened) (new_path_out s t p it.1) (moved_stands at at' olds news s t p opened moves it.0 (all.each p opened it.2))
  ];
}

pub relocated_follows : {H : Type 0} (old new : OpenCache H) (s t : Names) → IsRelocated (kept_at old.cache) s t (kept_at new.cache) → Follows old s t new
relocated_follows old new s t it = record { each = λ p opened is. relocated_kept (kept_at old.cache) (kept_at new.cache) s t p opened it is }

cleared_low : {H : Type 0} (old new : OpenCache H) (s t : Names) → (s ≡ [] → ⊥) → (t ≡ [] → ⊥) → ((p : Names) → kept_at new.cache p ≡ root_alone (kept_at old.cache) p) → Follows old s t new
cleared_low old new s t low_s low_t kept = record {
  each = λ p opened is.
      let it = root_cases (kept_at old.cache) p opened (sym (kept p) ∙ is) in
      inr (ap (λ (q : Names). is_prefix t q) it.0 ∙ prefix_of_root t low_t, ap (λ (q : Names). is_prefix s q) it.0 ∙ prefix_of_root s low_s, it.1);
}

pub cleared_follows : {H : Type 0} (old new : OpenCache H) (up : Names) (name : Name) (up' : Names) (name' : Name) → ((p : Names) → kept_at new.cache p ≡ root_alone (kept_at old.cache) p) → Follows old (up ++ name ∷ []) (up' ++ name' ∷ []) new
cleared_follows old new up name up' name' kept = cleared_low old new (up ++ name ∷ []) (up' ++ name' ∷ []) (below_root up name) (below_root up' name') kept

-- what was kept stays until then
pub keeps_follows : {H : Type 0} (old mid new : OpenCache H) (s t : Names) → KeepsAll old mid → Follows mid s t new → Follows old s t new
keeps_follows old mid new s t keeps follows = record {
  each = λ p opened is. elim (follows.each p opened is) [
    | inl it ↦ inl (it.0, it.1, sym (keeps.kept (s ++ it.0)) ∙ it.2)
    | inr it ↦ inr (it.0, it.1, sym (keeps.kept p) ∙ it.2)
  ];
}

cleared_stays : {H : Type 0} (at at' : Tree) (olds news : H → Names → Type 0) (old new : OpenCache H) → ((p : Names) → kept_at new.cache p ≡ root_alone (kept_at old.cache) p) → Stays at olds at' news → AllStand at olds old → AllStand at' news new
cleared_stays at at' olds news old new kept stays all =
    let left : AllStand at olds new = record { each = λ p opened is. all.each p opened (root_cases (kept_at old.cache) p opened (sym (kept p) ∙ is)).1 } in
    same_stand at at' olds news new stays left

-- what is open stands where the system failed
pub not_moved_stand : {H : Type 0} (at at' : Tree) (olds news : H → Names → Type 0) (old new : OpenCache H) (up : Names) (name : Name) (up' : Names) (name' : Name) (error : DiskError) → ((p : Names) → kept_at new.cache p ≡ root_alone (kept_at old.cache) p) → AreApart (up ++ name ∷ []) (up' ++ name' ∷ []) → Renames at olds (up ++ name ∷ []) (up' ++ name' ∷ []) (Err error) at' news → AllStand at olds old → AllStand at' news new
not_moved_stand at at' olds news old new up name up' name' Absent kept apart none all = cleared_stays at at' olds news old new kept none.1 all
not_moved_stand at at' olds news old new up name up' name' IsFolder kept apart none all = cleared_stays at at' olds news old new kept none.2 all
not_moved_stand at at' olds news old new up name up' name' NotFolder kept apart none all = cleared_stays at at' olds news old new kept none.2 all
not_moved_stand at at' olds news old new up name up' name' NotEmpty kept apart none all = cleared_stays at at' olds news old new kept none.3 all
not_moved_stand at at' olds news old new up name up' name' (Lost number) kept apart (inl none) all = cleared_stays at at' olds news old new kept none all
not_moved_stand at at' olds news old new up name up' name' (Lost number) kept apart (inr moves) all =
    follows_stand at at' olds news old new (up ++ name ∷ []) (up' ++ name' ∷ []) (cleared_follows old new up name up' name' kept) apart moves all
not_moved_stand at at' olds news old new up name up' name' Exists kept apart none all = cleared_stays at at' olds news old new kept none all

-- what is refused once something is seen at s
pub refuse_room : (at : Tree) (s t : Names) (errno : ℤ) → IsTree at → (s ≡ [] → ⊥) → (t ≡ [] → ⊥) → IsSome (at s) → is_path s t ≡ false → Refuses at (room_tests s t) errno → Refuses at (tests_of None (AskRename s t)) errno
refuse_room at s t errno tree low_s low_t some other refuses =
    inr (low_s, inr (low_t, inr (leads at s tree some, inr (some, subst (λ (b : Bool). Refuses at (unless b (room_tests s t)) errno) (sym other) refuses))))

-- it is moved
pub moved_done : {H : Type 0} (at at' : Tree) (olds news : H → Names → Type 0) (s t : Names) → IsTree at → (s ≡ [] → ⊥) → (t ≡ [] → ⊥) → Resolves at t → AreApart s t → Moves at olds s t at' news → Ends at (AskRename s t) (Ok Done) at'
moved_done at at' olds news s t tree low_s low_t down apart moves =
    let other = is_path-no s t (other_path s t apart.not_into) in
    let room : PassesAll at (room_tests s t) = (apart.not_into, (apart.not_over, (down, (moves.no_other_on_folder, (moves.no_folder_on_other, (moves.bare, tt)))))) in
    ((low_s, (low_t, (leads at s tree moves.source, (moves.source, subst (λ (b : Bool). PassesAll at (unless b (room_tests s t))) (sym other) room)))), (refl, moves.tree ∙ sym (cond-false (is_path s t) at (moved at s t) other)))

pub moved_ends : {H : Type 0} (at at' : Tree) (olds news : H → Names → Type 0) (up : Names) (name : Name) (up' : Names) (name' : Name) → IsTree at → at up' ≡ Some Folder → AreApart (up ++ name ∷ []) (up' ++ name' ∷ []) → Moves at olds (up ++ name ∷ []) (up' ++ name' ∷ []) at' news → Ends at (AskRename (up ++ name ∷ []) (up' ++ name' ∷ [])) (Ok Done) at'
moved_ends at at' olds news up name up' name' tree folder apart moves =
    moved_done at at' olds news (up ++ name ∷ []) (up' ++ name' ∷ []) tree (below_root up name) (below_root up' name') (leads_below at up' name' tree folder) apart moves

-- a full folder is not replaced
full_kept : {H : Type 0} (at at' : Tree) (olds news : H → Names → Type 0) (s t : Names) (trouble : Trouble) → IsTree at → (s ≡ [] → ⊥) → (t ≡ [] → ⊥) → Resolves at t → IsSome (at s) → AreApart s t → Renames at olds s t (Err NotEmpty) at' news → IsFull trouble → Ends at (AskRename s t) (Err trouble) at'
full_kept at at' olds news s t (Failed errno) tree low_s low_t down some apart none why = Before none.3.tree
full_kept at at' olds news s t (Refused HasNames) tree low_s low_t down some apart none why =
    (refuse_room at s t (reason_errno HasNames) tree low_s low_t some (is_path-no s t (other_path s t apart.not_into)) (inr (apart.not_into, inr (apart.not_over, inr (down, inr ((λ f d. other_no_folder (at s) f none.0), inr ((λ d f. other_no_folder (at t) f none.1), inl (none.2, refl))))))), none.3.tree)
full_kept at at' olds news s t (Refused Root) tree low_s low_t down some apart none why = absurd why
full_kept at at' olds news s t (Refused Nothing) tree low_s low_t down some apart none why = absurd why
full_kept at at' olds news s t (Refused Taken) tree low_s low_t down some apart none why = absurd why
full_kept at at' olds news s t (Refused NoFolder) tree low_s low_t down some apart none why = absurd why
full_kept at at' olds news s t (Refused IsOne) tree low_s low_t down some apart none why = absurd why
full_kept at at' olds news s t (Refused NoFile) tree low_s low_t down some apart none why = absurd why
full_kept at at' olds news s t (Refused NoLink) tree low_s low_t down some apart none why = absurd why
full_kept at at' olds news s t (Refused Below) tree low_s low_t down some apart none why = absurd why

-- it is not moved
not_moved : {H : Type 0} (at at' : Tree) (olds news : H → Names → Type 0) (s t : Names) (error : DiskError) (trouble : Trouble) → IsTree at → (s ≡ [] → ⊥) → (t ≡ [] → ⊥) → Resolves at t → IsSome (at s) → AreApart s t → Renames at olds s t (Err error) at' news → IsWhyNotMoved error trouble → Ends at (AskRename s t) (Err trouble) at'
not_moved at at' olds news s t IsFolder trouble tree low_s low_t down some apart none why =
    subst (λ (x : Trouble). Ends at (AskRename s t) (Err x) at') (sym why) (refuse_room at s t (reason_errno IsOne) tree low_s low_t some (is_path-no s t (other_path s t apart.not_into)) (inr (apart.not_into, inr (apart.not_over, inr (down, inl (none.0, none.1, refl))))), none.2.tree)
not_moved at at' olds news s t NotFolder trouble tree low_s low_t down some apart none why =
    subst (λ (x : Trouble). Ends at (AskRename s t) (Err x) at') (sym why) (refuse_room at s t (reason_errno NoFolder) tree low_s low_t some (is_path-no s t (other_path s t apart.not_into)) (inr (apart.not_into, inr (apart.not_over, inr (down, inr ((λ f d. other_no_folder (at s) f none.0), inl (none.0, none.1, refl)))))), none.2.tree)
not_moved at at' olds news s t NotEmpty trouble tree low_s low_t down some apart none why = full_kept at at' olds news s t trouble tree low_s low_t down some apart none why
not_moved at at' olds news s t (Lost number) (Failed errno) tree low_s low_t down some apart (inl none) why = Before none.tree
not_moved at at' olds news s t (Lost number) (Failed errno) tree low_s low_t down some apart (inr moves) why = After Done (inl (moved_done at at' olds news s t tree low_s low_t down apart moves))
not_moved at at' olds news s t (Lost number) (Refused reason) tree low_s low_t down some apart none why = absurd why
not_moved at at' olds news s t Absent (Failed errno) tree low_s low_t down some apart none why = Before none.1.tree
not_moved at at' olds news s t Absent (Refused reason) tree low_s low_t down some apart none why = absurd why
not_moved at at' olds news s t Exists (Failed errno) tree low_s low_t down some apart none why = Before none.tree
not_moved at at' olds news s t Exists (Refused reason) tree low_s low_t down some apart none why = absurd why

pub not_moved_ends : {H : Type 0} (at at' : Tree) (olds news : H → Names → Type 0) (up : Names) (name : Name) (up' : Names) (name' : Name) (error : DiskError) (trouble : Trouble) → IsTree at → at up' ≡ Some Folder → IsSome (at (up ++ name ∷ [])) → AreApart (up ++ name ∷ []) (up' ++ name' ∷ []) → Renames at olds (up ++ name ∷ []) (up' ++ name' ∷ []) (Err error) at' news → IsWhyNotMoved error trouble → Ends at (AskRename (up ++ name ∷ []) (up' ++ name' ∷ [])) (Err trouble) at'
not_moved_ends at at' olds news up name up' name' error trouble tree folder some apart none why =
    not_moved at at' olds news (up ++ name ∷ []) (up' ++ name' ∷ []) error trouble tree (below_root up name) (below_root up' name') (leads_below at up' name' tree folder) some apart none why

-- paths that are apart are below the root
pub apart_low : (s t : Names) → is_prefix s t ≡ false → s ≡ [] → ⊥
apart_low [] t far e = true≢false far
apart_low (x ∷ s) t far e = cc

-- a path is renamed itself
pub same_ends : (at : Tree) (s t : Names) → IsTree at → (s ≡ [] → ⊥) → (t ≡ [] → ⊥) → IsSome (at s) → s ≡ t → Ends at (AskRename s t) (Ok Done) at
same_ends at s t tree low_s low_t some same =
    let e = is_path-yes s t same in
    ((low_s, (low_t, (leads at s tree some, (some, subst (λ (b : Bool). PassesAll at (unless b (room_tests s t))) (sym e) tt)))), (refl, sym (cond-true (is_path s t) at (moved at s t) e)))

pub into_ends : (at : Tree) (s t : Names) → IsTree at → (s ≡ [] → ⊥) → (t ≡ [] → ⊥) → IsSome (at s) → (s ≡ t → ⊥) → is_prefix s t ≡ true → Ends at (AskRename s t) (Err (Refused Below)) at
into_ends at s t tree low_s low_t some ne into = (refuse_room at s t (reason_errno Below) tree low_s low_t some (is_path-no s t ne) (inl (into, refl)), refl)

pub over_ends : (at : Tree) (s t : Names) → IsTree at → (s ≡ [] → ⊥) → (t ≡ [] → ⊥) → IsSome (at s) → (s ≡ t → ⊥) → is_prefix s t ≡ false → is_prefix t s ≡ true → Ends at (AskRename s t) (Err (Refused HasNames)) at
over_ends at s t tree low_s low_t some ne apart over = (refuse_room at s t (reason_errno HasNames) tree low_s low_t some (is_path-no s t ne) (inr (apart, inl (over, refl))), refl)

-- no way leads to t
pub stopped_ends : (at : Tree) (s t : Names) (trouble : Trouble) → IsTree at → AreApart s t → IsSome (at s) → IsStopped at t trouble → Ends at (AskRename s t) (Err trouble) at
stopped_ends at s t (Failed errno) tree apart some stopped = Before refl
stopped_ends at s t (Refused reason) tree apart some stopped =
    (refuse_room at s t (reason_errno reason) tree (apart_low s t apart.not_into) (apart_low t s apart.not_over) some (is_path-no s t (other_path s t apart.not_into)) (inr (apart.not_into, inr (apart.not_over, inl stopped))), refl)

pub not_is : (P : Type 0) (b : Bool) → (P → IsTrue b) → b ≡ false → P → ⊥
not_is P b says denied p = true≢false (sym (says p) ∙ denied)

-- a folder that is looked up stays where it is held
pub entry_keeps : {H : Type 0} (old new : OpenCache H) (entry : Entry H) (path : Names) → KeepsAll old new → IsEntryOf old entry path → IsEntryOf new entry path
entry_keeps old new entry path keeps it = record { up = it.up; whole = it.whole; held = held_keeps_all old new entry.folder it.up keeps it.held; lawful = it.lawful }

pub stands_keeps : {H : Type 0} (at : Tree) (stands : H → Names → Type 0) (old new : OpenCache H) (entry : Entry H) (path : Names) → KeepsAll old new → StandsIn at stands old entry path → StandsIn at stands new entry path
stands_keeps at stands old new entry path keeps it = record { up = it.up; whole = it.whole; folder = folder_keeps_all at stands old new entry.folder it.up keeps it.folder }

-- folders lead to t, in a folder
pub target_led : (at : Tree) (t up : Names) (name : Name) (result : Result (Unit {0}) Trouble) → IsTree at → t ≡ up ++ name ∷ [] → at up ≡ Some Folder → OnOk result (Resolves at t)
target_led at t up name (Err trouble) tree whole folder = tt
target_led at t up name (Ok done) tree whole folder = subst (λ (q : Names). Resolves at q) (sym whole) (leads_below at up name tree folder)

-- what a look tells of t, in a folder
pub target_told : (at : Tree) (t up : Names) (name : Name) (result : Result Bool Trouble) → IsTree at → t ≡ up ++ name ∷ [] → at up ≡ Some Folder → IfOk result (IsTold at (up ++ name ∷ [])) → IfOk result (λ taken. Resolves at t × IsTold at t taken)
target_told at t up name (Err trouble) tree whole folder told = tt
target_told at t up name (Ok taken) tree whole folder told =
    (subst (λ (q : Names). Resolves at q) (sym whole) (leads_below at up name tree folder), subst (λ (q : Names). IsTold at q taken) (sym whole) told)
