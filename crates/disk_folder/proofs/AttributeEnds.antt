-- How calls end that set attributes or sync.
use Rattle.std.proofs.Common.{Result, Ok, Err, IfOk, IfErr, OnOk, ◌≡◌, [], ◌∷◌, ◌++◌, Option, Some, None, IsSome, refl, sym, subst, inl}
use Rattle.std.specs.Option.{option_map}
use Rattle.paths.specs.Prefixes.{Name, Names}
use Rattle.path_cache.specs.declared.places.Place.{Place}
use Rattle.path_cache.specs.Cache.{IsAt}
use Rattle.backing.specs.declared.call.Answer.{Answer}
use Rattle.backing.specs.declared.call.Answer.TheVariants.{Done}
use Rattle.payload.specs.declared.attributes.Kind.{Kind}
use Rattle.backing.specs.declared.entries.Item.{Item}
use Rattle.backing.specs.declared.entries.Item.TheVariants.{Folder}
use Rattle.backing.specs.Checks.{present_tests}
use Rattle.backing.specs.Tree.{Tree, IsTree, kind_of}
use Rattle.backing.proofs.Lawful.{some_item}
use Rattle.disk.specs.declared.error.DiskError.{DiskError}
use Rattle.disk.specs.Errors.{errno_of}
use Rattle.disk_folder.specs.declared.opened.Held.TheVariants.{Kept}
use Rattle.disk_folder.specs.declared.opened.Open.{Open}
use Rattle.disk_folder.specs.declared.open_cache.OpenCache.{OpenCache}
use Rattle.disk_folder.specs.declared.trouble.Trouble.{Trouble}
use Rattle.disk_folder.specs.declared.trouble.Trouble.TheVariants.{Refused, Failed}
use Rattle.disk_folder.specs.Attributes.{IsPresent}
use Rattle.disk_folder.specs.Ends.{IsRefused}
use Rattle.disk_folder.specs.Seen.{IsMissing}
use Rattle.disk_folder.specs.Standing.{AllStand, IsStanding, KeepsAll, open_of}
use Rattle.disk_folder.specs.Troubles.{IsStopped}
use Rattle.disk_folder.proofs.SeenLemmas.{missing_refused}
use Rattle.disk_folder.proofs.StandLemmas.{held_stands, stand_keeps_all}
use Rattle.disk_folder.proofs.WayLemmas.{leads, leads_below}

-- what the system has done is done
pub done_as : (told : Result (Unit {0}) DiskError) (result : Result Answer Trouble) (P : Type 0) → OnOk told (result ≡ Ok Done) → IfErr told (λ error. result ≡ Err (Failed (errno_of error))) → OnOk told P → OnOk result P
done_as (Ok done) result P ok err it = subst (λ (r : Result Answer Trouble). OnOk r P) (sym ok) it
done_as (Err error) result P ok err it = subst (λ (r : Result Answer Trouble). OnOk r P) (sym err) tt

pub on_if : {A E : Type 0} (result : Result A E) (P : Type 0) → OnOk result P → IfOk result (λ own. P)
on_if (Ok own) P it = it
on_if (Err error) P it = tt

pub all_if : {A E : Type 0} (result : Result A E) (P : Type 0) → P → IfOk result (λ own. P)
all_if (Ok own) P it = it
all_if (Err error) P it = tt

some_of : (o : Option Item) (k : Kind) → option_map kind_of o ≡ Some k → IsSome o
some_of None k e = cc
some_of (Some item) k e = some_item (Some item) item refl

-- what is kept stands
pub used_stands : {H : Type 0} (at : Tree) (stands : H → Names → Type 0) (old new : OpenCache H) (place : Place) (p : Names) (opened : Open H) → AllStand at stands old → KeepsAll old new → IsAt new.cache place p → open_of new (Kept place) ≡ Some opened → IsStanding at stands p opened
used_stands at stands old new place p opened all keeps there is = held_stands at stands new (Kept place) p opened (stand_keeps_all at stands old new keeps all) there tt is

pub present_at : (at : Tree) (p : Names) → IsTree at → IsSome (at p) → IsPresent at p
present_at at p tree some = (leads at p tree some, (some, tt))

pub standing_present : {H : Type 0} (at : Tree) (stands : H → Names → Type 0) (p : Names) (opened : Open H) → IsTree at → IsStanding at stands p opened → IsPresent at p
standing_present at stands p opened tree it = present_at at p tree (some_of (at p) opened.kind it.kind)

-- what is so of the name in its folder is so of the path
pub entry_done : {A E : Type 0} (result : Result A E) (P : Names → Type 0) (path up : Names) (name : Name) → path ≡ up ++ name ∷ [] → OnOk result (P (up ++ name ∷ [])) → IfOk result (λ own. P path)
entry_done result P path up name whole it = on_if result (P path) (subst (λ (q : Names). OnOk result (P q)) (sym whole) it)

pub entry_present : {A E : Type 0} (result : Result A E) (at : Tree) (path up : Names) (name : Name) → IsTree at → path ≡ up ++ name ∷ [] → OnOk result (IsSome (at (up ++ name ∷ []))) → IfOk result (λ own. IsPresent at path)
entry_present (Ok own) at path up name tree whole some = present_at at path tree (subst (λ (q : Names). IsSome (at q)) (sym whole) some)
entry_present (Err error) at path up name tree whole some = tt

pub entry_missing : {A : Type 0} (result : Result A Trouble) (at : Tree) (path up : Names) (name : Name) → IsTree at → path ≡ up ++ name ∷ [] → at up ≡ Some Folder → IfErr result (IsMissing at (up ++ name ∷ [])) → IfErr result (IsRefused at (present_tests path))
entry_missing (Ok own) at path up name tree whole folder missing = tt
entry_missing (Err trouble) at path up name tree whole folder missing =
    subst (λ (q : Names). IsRefused at (present_tests q) trouble) (sym whole) (missing_refused at (up ++ name ∷ []) trouble (leads_below at up name tree folder) missing)

-- no way leads down to it
pub stopped_present : (at : Tree) (p : Names) (trouble : Trouble) → IsStopped at p trouble → IsRefused at (present_tests p) trouble
stopped_present at p (Refused reason) stopped = inl stopped
stopped_present at p (Failed errno) stopped = tt
