-- What is open stands, as what is kept changes.
use Rattle.std.proofs.Common.{◌≡◌, ◌⊎◌, [], ◌∷◌, ◌++◌, Option, Some, None, Result, Ok, Err, IfOk, refl, sym, ap, ◌∙◌, subst, inl, inr}
use Rattle.std.specs.Option.{option_map}
use Rattle.std.proofs.lemmas.Option.{none-some}
use Rattle.paths.specs.Prefixes.{Name, Names}
use Rattle.paths.proofs.PrefixLemmas.{not_over_parent}
use Rattle.payload.specs.declared.attributes.Kind.{Kind}
use Rattle.payload.specs.declared.attributes.Kind.TheVariants as kinds
use Rattle.backing.specs.declared.entries.Item.{Item}
use Rattle.backing.specs.declared.entries.Item.TheVariants.{Folder}
use Rattle.backing.specs.Tree.{Tree, IsFile, kind_of}
use Rattle.backing.proofs.KindLemmas.{kind_folder}
use Rattle.path_cache.specs.declared.places.Place.{Place}
use Rattle.path_cache.specs.Cache.{kept_at, value_at, IsAt}
use Rattle.path_cache.proofs.CallerLemmas.{value_here}
use Rattle.disk_folder.specs.declared.opened.Open.{Open}
use Rattle.disk_folder.specs.declared.opened.Held.{Held}
use Rattle.disk_folder.specs.declared.opened.KeptEntry.{KeptEntry}
use Rattle.disk_folder.specs.declared.opened.Held.TheVariants.{Kept, Own}
use Rattle.disk_folder.specs.declared.open_cache.OpenCache.{OpenCache}
use Rattle.disk_folder.specs.declared.trouble.Trouble.{Trouble}
use Rattle.disk_folder.proofs.WayLemmas.{file_is, kind_file}
use Rattle.disk_folder.specs.Standing.{open_of, kind_at, AllStand, IsFileAt, IsOpenFile, IsOpenFolder, IsOwn, IsFolderAt, IsHeldAt, IsKeptEntry, IsStanding, KeepsAll, Keeps, OwnStands, Settles}

pub some_same : {A : Type 0} (x y : A) (o : Option A) → o ≡ Some x → o ≡ Some y → x ≡ y
some_same x y o e f = let g : Some x ≡ Some y = sym e ∙ f in cc

-- what is held stands where it is held
pub held_stands : {H : Type 0} (at : Tree) (stands : H → Names → Type 0) (c : OpenCache H) (held : Held H) (p : Names) (opened : Open H) → AllStand at stands c → IsHeldAt c held p → OwnStands at stands held p → open_of c held ≡ Some opened → IsStanding at stands p opened
held_stands at stands c (Kept place) p opened all there own is = all.each p opened (sym (value_here c.cache place p there) ∙ is)
held_stands {H} at stands c (Own mine) p opened all there own is = subst (λ (o : Open H). IsStanding at stands p o) (some_same mine opened (Some mine) refl is) own

-- an open folder stands where it is
pub folder_stands : {H : Type 0} (at : Tree) (stands : H → Names → Type 0) (c : OpenCache H) (held : Held H) (p : Names) (opened : Open H) → IsFolderAt at stands c held p → open_of c held ≡ Some opened → stands opened.handle p
folder_stands at stands c held p opened it is = (held_stands at stands c held p opened it.all it.held_at it.own is).handle

-- what stays in the cache stands
pub stand_settles : {H : Type 0} (at : Tree) (stands : H → Names → Type 0) (old new : OpenCache H) (q : Names) → Settles old q new → AllStand at stands old → AllStand at stands new
stand_settles {H} at stands old new q settles all = record {
  each = λ p opened is. elim (settles.kept p) [
    | inl same ↦ all.each p opened (sym same ∙ is)
    | inr none ↦ absurd (none-some opened (sym none ∙ is))
  ];
}

pub stand_keeps_all : {H : Type 0} (at : Tree) (stands : H → Names → Type 0) (old new : OpenCache H) → KeepsAll old new → AllStand at stands old → AllStand at stands new
stand_keeps_all at stands old new keeps all = record { each = λ p opened is. all.each p opened (sym (keeps.kept p) ∙ is) }

-- one more that stands is kept
pub stand_keeps : {H : Type 0} (at : Tree) (stands : H → Names → Type 0) (old new : OpenCache H) (q : Names) (opened : Open H) → Keeps old q opened new → IsStanding at stands q opened → AllStand at stands old → AllStand at stands new
stand_keeps {H} at stands old new q opened keeps one all = record {
  each = λ p other is. elim (keeps.kept p) [
    | inl same ↦ all.each p other (sym same ∙ is)
    | inr more ↦ elim more [
      | inl none ↦ absurd (none-some other (sym none ∙ is))
      | inr it ↦
          let that : opened ≡ other = some_same opened other (kept_at new.cache p) it.1 is in
          subst (λ (o : Open H). IsStanding at stands p o) that (subst (λ (r : Names). IsStanding at stands r opened) it.0 one)
    ]
  ];
}

-- a folder stays where it is held, whatever is closed below it
pub held_settles : {H : Type 0} (old new : OpenCache H) (held : Held H) (up : Names) (name : Name) → Settles old (up ++ name ∷ []) new → IsHeldAt old held up → IsHeldAt new held up
held_settles old new (Kept place) up name settles there = settles.places place up (not_over_parent up name) there
held_settles old new (Own opened) up name settles there = record {
  none = λ more. elim (settles.kept (up ++ more)) [
    | inl same ↦ same ∙ there.none more
    | inr none ↦ none
  ];
}

pub held_keeps_all : {H : Type 0} (old new : OpenCache H) (held : Held H) (p : Names) → KeepsAll old new → IsHeldAt old held p → IsHeldAt new held p
held_keeps_all old new (Kept place) p keeps there = keeps.places place p there
held_keeps_all old new (Own opened) p keeps there = record { none = λ more. keeps.kept (p ++ more) ∙ there.none more }

-- a folder stays one, whatever is looked up
pub folder_keeps_all : {H : Type 0} (at : Tree) (stands : H → Names → Type 0) (old new : OpenCache H) (held : Held H) (p : Names) → KeepsAll old new → IsFolderAt at stands old held p → IsFolderAt at stands new held p
folder_keeps_all at stands old new held p keeps it = record {
  all = stand_keeps_all at stands old new keeps it.all;
  held_at = held_keeps_all old new held p keeps it.held_at;
  own = it.own;
  folder = it.folder;
}

-- what is kept of some kind is kept
kept_kind : {H : Type 0} (o : Option (Open H)) (kind : Kind) → option_map (λ (opened : Open H). opened.kind) o ≡ Some kind → (opened : Open H) × (o ≡ Some opened) × (opened.kind ≡ kind)
kept_kind None kind e = absurd (none-some kind e)
kept_kind (Some opened) kind e = (opened, refl, cc)

-- a folder that is kept stands
pub kept_folder : {H : Type 0} (at : Tree) (stands : H → Names → Type 0) (c : OpenCache H) (place : Place) (p : Names) → AllStand at stands c → IsAt c.cache place p → kind_at c place ≡ Some kinds.Folder → IsFolderAt at stands c (Kept place) p
kept_folder at stands c place p all there is =
    let it = kept_kind (value_at c.cache place) kinds.Folder is in
    let standing = all.each p it.0 (sym (value_here c.cache place p there) ∙ it.1) in
    record { all = all; held_at = there; own = tt; folder = kind_folder (at p) (standing.kind ∙ ap Some it.2) }

-- the root or a folder that is kept stands
pub way_folder : {H : Type 0} (at : Tree) (stands : H → Names → Type 0) (c : OpenCache H) (place : Place) (p : Names) → at [] ≡ Some Folder → AllStand at stands c → IsAt c.cache place p → (p ≡ []) ⊎ (kind_at c place ≡ Some kinds.Folder) → IsFolderAt at stands c (Kept place) p
way_folder at stands c place p root all there is = elim is [
  | inl e ↦ record { all = all; held_at = there; own = tt; folder = ap at e ∙ root }
  | inr kind ↦ kept_folder at stands c place p all there kind
]

-- the folder of a name that stays open stands
pub kept_stands : {H : Type 0} (at : Tree) (stands : H → Names → Type 0) (c : OpenCache H) (entry : KeptEntry) (path : Names) → at [] ≡ Some Folder → AllStand at stands c → (it : IsKeptEntry c entry path) → IsFolderAt at stands c (Kept entry.folder) it.up
kept_stands at stands c entry path root all it = way_folder at stands c entry.folder it.up root all it.at it.kind

-- a folder that was opened stands
pub opened_folder : {H : Type 0} (at : Tree) (stands : H → Names → Type 0) (q : Names) (handle : H) (result : Result (Open H) Trouble) → IfOk result (λ opened. (opened.kind ≡ kinds.Folder) × (opened.handle ≡ handle)) → stands handle q × (at q ≡ Some Folder) → IfOk result (IsOpenFolder at stands q)
opened_folder {H} at stands q handle (Err trouble) h it = tt
opened_folder {H} at stands q handle (Ok opened) h it = record {
  standing = record {
    handle = subst (λ (x : H). stands x q) (sym h.1) it.0;
    kind = ap (λ (o : Option Item). option_map kind_of o) it.1 ∙ ap Some (sym h.0);
  };
  folder = it.1;
}

own_stands : {H : Type 0} (at : Tree) (stands : H → Names → Type 0) (q : Names) (opened : Open H) (held : Held H) → IsOwn opened held → IsStanding at stands q opened → OwnStands at stands held q
own_stands at stands q opened (Kept place) own standing = tt
own_stands {H} at stands q opened (Own mine) own standing = subst (λ (o : Open H). IsStanding at stands q o) (sym own) standing

-- a folder that was opened and is held stands
pub held_folder : {H : Type 0} (at : Tree) (stands : H → Names → Type 0) (new : OpenCache H) (q : Names) (opened : Open H) (result : Result (Held H) Trouble) → IfOk result (λ held. IsHeldAt new held q) → IfOk result (IsOwn opened) → AllStand at stands new → IsOpenFolder at stands q opened → IfOk result (λ held. IsFolderAt at stands new held q)
held_folder at stands new q opened (Err trouble) there own all it = tt
held_folder at stands new q opened (Ok held) there own all it = record { all = all; held_at = there; own = own_stands at stands q opened held own it.standing; folder = it.folder }

-- a file that is kept stands
pub kept_file : {H : Type 0} (at : Tree) (stands : H → Names → Type 0) (c : OpenCache H) (place : Place) (p : Names) → AllStand at stands c → IsAt c.cache place p → kind_at c place ≡ Some kinds.File → IsFileAt at stands c (Kept place) p
kept_file at stands c place p all there is =
    let it = kept_kind (value_at c.cache place) kinds.File is in
    let standing = all.each p it.0 (sym (value_here c.cache place p there) ∙ it.1) in
    let file = kind_file (at p) (standing.kind ∙ ap Some it.2) in
    record { all = all; held_at = there; own = tt; bytes = file.0; file = file.1 }

-- a file that was opened stands
pub opened_file : {H : Type 0} (at : Tree) (stands : H → Names → Type 0) (q : Names) (handle : H) (result : Result (Open H) Trouble) → IfOk result (λ opened. (opened.kind ≡ kinds.File) × (opened.handle ≡ handle)) → stands handle q × IsFile (at q) → IfOk result (IsOpenFile at stands q)
opened_file {H} at stands q handle (Err trouble) h it = tt
opened_file {H} at stands q handle (Ok opened) h it =
    let file = file_is (at q) it.1 in
    record {
      standing = record {
        handle = subst (λ (x : H). stands x q) (sym h.1) it.0;
        kind = ap (λ (o : Option Item). option_map kind_of o) file.1 ∙ ap Some (sym h.0);
      };
      bytes = file.0;
      file = file.1;
    }

-- a file that was opened and is held stands
pub held_file : {H : Type 0} (at : Tree) (stands : H → Names → Type 0) (new : OpenCache H) (q : Names) (opened : Open H) (result : Result (Held H) Trouble) → IfOk result (λ held. IsHeldAt new held q) → IfOk result (IsOwn opened) → AllStand at stands new → IsOpenFile at stands q opened → IfOk result (λ held. IsFileAt at stands new held q)
held_file at stands new q opened (Err trouble) there own all it = tt
held_file at stands new q opened (Ok held) there own all it = record { all = all; held_at = there; own = own_stands at stands q opened held own it.standing; bytes = it.bytes; file = it.file }

pub file_stands : {H : Type 0} (at : Tree) (stands : H → Names → Type 0) (c : OpenCache H) (held : Held H) (p : Names) (opened : Open H) → IsFileAt at stands c held p → open_of c held ≡ Some opened → stands opened.handle p
file_stands at stands c held p opened it is = (held_stands at stands c held p opened it.all it.held_at it.own is).handle

-- a clause of a result, from another
pub if_ok : {A E : Type 0} (P Q : A → Type 0) (r : Result A E) → ((x : A) → P x → Q x) → IfOk r P → IfOk r Q
if_ok P Q (Ok x) f h = f x h
if_ok P Q (Err e) f h = tt
