-- What a look says of the tree, and how a call ends then.
use Rattle.std.proofs.Common.{List, ℕ, Result, Ok, Err, IfErr, ◌≡◌, ◌⊎◌, [], ◌∷◌, ◌++◌, Option, Some, None, IsSome, refl, sym, ap, ◌∙◌, subst, arith, inl, inr}
use Rattle.paths.specs.Prefixes.{Name, Names}
use Rattle.backing.specs.declared.call.Answer.{Answer}
use Rattle.backing.specs.declared.call.Answer.TheVariants.{Stat}
use Rattle.payload.specs.declared.attributes.Details.{Details}
use Rattle.payload.specs.declared.attributes.Kind.{Kind}
use Rattle.payload.specs.declared.attributes.Kind.TheVariants as kinds
use Rattle.payload.specs.declared.attributes.Special.{Special as SpecialKind}
use Rattle.backing.specs.declared.entries.Item.{Item}
use Rattle.backing.specs.declared.entries.Item.TheVariants.{Folder, File, Link, Special}
use Rattle.backing.specs.Tree.{Tree, IsTree, IsNeither, Resolves, kind_of, size_of}
use Rattle.backing.specs.Calls.{Asked, AskStat, Test, Reached, Present, FileAt, tests_of}
use Rattle.backing.specs.Checks.{file_tests, present_tests}
use Rattle.backing.proofs.Lawful.{some_item}
use Rattle.disk_folder.specs.declared.look.Seen.{Seen}
use Rattle.disk_folder.specs.declared.trouble.Trouble.{Trouble}
use Rattle.disk_folder.specs.declared.trouble.Trouble.TheVariants.{Refused, Failed}
use Rattle.disk_folder.specs.declared.trouble.Reason.TheVariants.{Root, Nothing, Taken, NoFolder, NoFile, NoLink, Folder as IsOne, Below, Names as HasNames}
use Rattle.disk_folder.specs.Ends.{Ends, Before, IsRefused}
use Rattle.disk_folder.specs.Seen.{IsMissing, IsNoFile, IsSeen, told_by}
use Rattle.disk_folder.specs.Suits.{Suits}
use Rattle.disk_folder.proofs.WayLemmas.{folder_yes, some_from, leads, leads_below}

-- what is missing where folders lead is refused
pub missing_refused : (at : Tree) (q : Names) (trouble : Trouble) → Resolves at q → IsMissing at q trouble → IsRefused at (present_tests q) trouble
missing_refused at q (Failed errno) down none = tt
missing_refused at q (Refused Nothing) down none = inr (down, inl (none, refl))
missing_refused at q (Refused Root) down none = absurd none
missing_refused at q (Refused Taken) down none = absurd none
missing_refused at q (Refused NoFolder) down none = absurd none
missing_refused at q (Refused IsOne) down none = absurd none
missing_refused at q (Refused NoFile) down none = absurd none
missing_refused at q (Refused NoLink) down none = absurd none
missing_refused at q (Refused Below) down none = absurd none
missing_refused at q (Refused HasNames) down none = absurd none

-- what the tree refuses has no work to lose
pub refused_ends : (at : Tree) (call : Asked) (trouble : Trouble) → IsRefused at (tests_of None call) trouble → Ends at call (Err trouble) at
refused_ends at call (Refused reason) refused = (refused, refl)
refused_ends at call (Failed errno) refused = Before refl

told_item : (size : ℕ) (details : Details) (item : Item) → size ≡ size_of item → told_by (kind_of item) size details ≡ Stat (kind_of item) (size_of item) details
told_item size details Folder f = refl
told_item size details (File bytes) f = ap (λ (n : ℕ). Stat kinds.File n details) f
told_item size details (Link text) f = ap (λ (n : ℕ). Stat kinds.Link n details) f
told_item size details (Special special) f = ap (λ (n : ℕ). Stat (kinds.Special special) n details) f

told_is : (kind : Kind) (size : ℕ) (details : Details) (item : Item) → kind ≡ kind_of item → size ≡ size_of item → told_by kind size details ≡ Stat (kind_of item) (size_of item) details
told_is kind size details item e f = ap (λ (k : Kind). told_by k size details) e ∙ told_item size details item f

-- what a look shows is the answer
pub stat_ends : (at : Tree) (path : Names) (seen : Seen) (answer : Answer) → IsTree at → IsSeen at path seen → answer ≡ told_by seen.kind seen.size seen.details → Ends at (AskStat path) (Ok answer) at
stat_ends at path seen answer t it e =
    let some = some_item (at path) it.item it.stands in
    ((leads at path t some, (some, tt)), ((it.item, it.stands, (seen.details, e ∙ told_is seen.kind seen.size seen.details it.item it.kind it.size)), refl))

told_suits : (kind : Kind) (size : ℕ) (details : Details) → (k : Kind) × (n : ℕ) × (d : Details) × (told_by kind size details ≡ Stat k n d) × (k ≡ kinds.Folder → n ≡ 0)
told_suits kinds.Folder size details = (kinds.Folder, 0, details, refl, λ e. refl)
told_suits kinds.File size details = (kinds.File, size, details, refl, λ e. cc)
told_suits kinds.Link size details = (kinds.Link, size, details, refl, λ e. cc)
told_suits (kinds.Special special) size details = (kinds.Special special, size, details, refl, λ e. cc)

pub stat_suits : (path : Names) (seen : Seen) (answer : Answer) → answer ≡ told_by seen.kind seen.size seen.details → Suits (AskStat path) answer
stat_suits path seen answer e = subst (λ (a : Answer). Suits (AskStat path) a) (sym e) (told_suits seen.kind seen.size seen.details)

pub root_refused : (at : Tree) (result : Result Seen Trouble) → IfErr result (IsMissing at []) → IfErr result (IsRefused at (present_tests []))
root_refused at (Ok seen) none = tt
root_refused at (Err trouble) none = missing_refused at [] trouble (record { down = λ k h. absurd (omega (arith, h)) }) none

-- what is missing in an open folder is refused
pub entry_refused : (at : Tree) (path up : Names) (name : Name) (result : Result Seen Trouble) → IsTree at → path ≡ up ++ name ∷ [] → at up ≡ Some Folder → IfErr result (IsMissing at (up ++ name ∷ [])) → IfErr result (IsRefused at (present_tests path))
entry_refused at path up name (Ok seen) t whole folder none = tt
entry_refused at path up name (Err trouble) t whole folder none =
    subst (λ (q : Names). IsRefused at (present_tests q) trouble) (sym whole) (missing_refused at (up ++ name ∷ []) trouble (leads_below at up name t folder) none)

some_neither : (o : Option Item) → IsNeither o → IsSome o
some_neither None h = absurd h
some_neither (Some item) h = some_item (Some item) item refl

-- what is no file where folders lead is refused
no_file_refused : (at : Tree) (q : Names) (trouble : Trouble) → Resolves at q → IsNoFile at q trouble → IsRefused at (file_tests q) trouble
no_file_refused at q (Failed errno) down none = tt
no_file_refused at q (Refused Nothing) down none = inr (down, inl (none, refl))
no_file_refused at q (Refused IsOne) down none = inr (down, inr (some_from (at q) none, inl (inl (none, refl))))
no_file_refused at q (Refused NoFile) down none = inr (down, inr (some_neither (at q) none, inl (inr (none, refl))))
no_file_refused at q (Refused Root) down none = absurd none
no_file_refused at q (Refused Taken) down none = absurd none
no_file_refused at q (Refused NoFolder) down none = absurd none
no_file_refused at q (Refused NoLink) down none = absurd none
no_file_refused at q (Refused Below) down none = absurd none
no_file_refused at q (Refused HasNames) down none = absurd none

pub entry_no_file : {A : Type 0} (at : Tree) (path up : Names) (name : Name) (result : Result A Trouble) → IsTree at → path ≡ up ++ name ∷ [] → at up ≡ Some Folder → IfErr result (IsNoFile at (up ++ name ∷ [])) → IfErr result (IsRefused at (file_tests path))
entry_no_file at path up name (Ok held) t whole folder none = tt
entry_no_file at path up name (Err trouble) t whole folder none =
    subst (λ (q : Names). IsRefused at (file_tests q) trouble) (sym whole) (no_file_refused at (up ++ name ∷ []) trouble (leads_below at up name t folder) none)

item_folder : (item : Item) → kinds.Folder ≡ kind_of item → item ≡ Folder
item_folder Folder e = refl
item_folder (File bytes) e = cc
item_folder (Link text) e = cc
item_folder (Special special) e = cc

item_file : (item : Item) → kinds.File ≡ kind_of item → (bytes : List ℕ) × (item ≡ File bytes)
item_file Folder e = cc
item_file (File bytes) e = (bytes, refl)
item_file (Link text) e = cc
item_file (Special special) e = cc

-- neither that of a folder nor that of a file
abbrev IsOtherKind : Kind → Type 0
IsOtherKind kinds.Folder = ⊥
IsOtherKind kinds.File = ⊥
IsOtherKind kind = Unit {0}

other_kind : (kind : Kind) → (kind ≡ kinds.Link) ⊎ ((special : SpecialKind) × (kind ≡ kinds.Special special)) → IsOtherKind kind
other_kind kind (inl e) = subst (λ (k : Kind). IsOtherKind k) (sym e) tt
other_kind kind (inr it) = subst (λ (k : Kind). IsOtherKind k) (sym it.1) tt

item_neither : (item : Item) → IsOtherKind (kind_of item) → IsNeither (Some item)
item_neither Folder h = absurd h
item_neither (File bytes) h = absurd h
item_neither (Link text) h = tt
item_neither (Special special) h = tt

-- what a look shows as a folder is one
pub seen_folder : (at : Tree) (path : Names) (seen : Seen) → IsSeen at path seen → seen.kind ≡ kinds.Folder → at path ≡ Some Folder
seen_folder at path seen it e = it.stands ∙ ap (λ (item : Item). Some item) (item_folder it.item (sym e ∙ it.kind))

-- what a look shows as a file is one
pub seen_file : (at : Tree) (path : Names) (seen : Seen) → IsSeen at path seen → seen.kind ≡ kinds.File → (bytes : List ℕ) × (at path ≡ Some (File bytes))
seen_file at path seen it e = let file = item_file it.item (sym e ∙ it.kind) in (file.0, it.stands ∙ ap (λ (item : Item). Some item) file.1)

-- a folder that a look shows is no file
pub seen_folder_refused : (at : Tree) (path : Names) (seen : Seen) → IsTree at → IsSeen at path seen → seen.kind ≡ kinds.Folder → IsRefused at (file_tests path) (Refused IsOne)
seen_folder_refused at path seen t it e =
    let folder = seen_folder at path seen it e in
    let some = some_item (at path) Folder folder in
    inr (leads at path t some, inr (some, inl (inl (folder_yes (at path) folder, refl))))

-- nor is what a look shows as neither
pub seen_neither_refused : (at : Tree) (path : Names) (seen : Seen) → IsTree at → IsSeen at path seen → (seen.kind ≡ kinds.Link) ⊎ ((special : SpecialKind) × (seen.kind ≡ kinds.Special special)) → IsRefused at (file_tests path) (Refused NoFile)
seen_neither_refused at path seen t it e =
    let some = some_item (at path) it.item it.stands in
    let neither = item_neither it.item (subst (λ (k : Kind). IsOtherKind k) it.kind (other_kind seen.kind e)) in
    inr (leads at path t some, inr (some, inl (inr (subst (λ (o : Option Item). IsNeither o) (sym it.stands) neither, refl))))

-- what refuses a look refuses what needs a file
pub present_file : (at : Tree) (path : Names) (trouble : Trouble) → IsRefused at (present_tests path) trouble → IsRefused at (file_tests path) trouble
present_file at path (Failed errno) refused = tt
present_file at path (Refused reason) (inl stops) = inl stops
present_file at path (Refused reason) (inr (down, inl none)) = inr (down, inl none)
present_file at path (Refused reason) (inr (down, inr (some, more))) = absurd more

-- and the same with one more test
pub file_longer : (at : Tree) (path : Names) (more : Test) (trouble : Trouble) → IsRefused at (file_tests path) trouble → IsRefused at (Reached path ∷ Present path ∷ FileAt path ∷ more ∷ []) trouble
file_longer at path more (Failed errno) refused = tt
file_longer at path more (Refused reason) (inl stops) = inl stops
file_longer at path more (Refused reason) (inr (down, inl none)) = inr (down, inl none)
file_longer at path more (Refused reason) (inr (down, inr (some, inl folder))) = inr (down, inr (some, inl folder))
file_longer at path more (Refused reason) (inr (down, inr (some, inr (file, none)))) = absurd none
