-- What a rename needs of what stands at both paths.
use Rattle.std.proofs.Common.{◌≡◌, Option, Some, None, Ok, Err, sym, subst}
use Rattle.paths.specs.Prefixes.{Names}
use Rattle.backing.specs.declared.entries.Item.{Item}
use Rattle.backing.specs.declared.entries.Item.TheVariants as items
use Rattle.backing.specs.Tree.{Tree, IsTree, IsOther, IsFolder as IsFolderItem, IsBare, HasNames}
use Rattle.backing.proofs.Lawful.{some_item, other_bare}
use Rattle.disk.specs.declared.error.DiskError.{DiskError}
use Rattle.disk.specs.declared.error.DiskError.TheVariants.{NotFolder, IsFolder}
use Rattle.disk.specs.declared.spot.Content.{Content}
use Rattle.disk.specs.declared.spot.Content.TheVariants.{Folder}
use Rattle.disk.specs.Spots.{item_of, CanMove, CannotMove, FitsKinds}

-- nothing stands at the target
pub moves_free : (at : Tree) (s t : Names) (item : Item) → IsTree at → at s ≡ Some item → at t ≡ None → CanMove at s t
moves_free at s t item tree source free =
    let no_folder : IsFolderItem (at t) → ⊥ = λ h. subst (λ (o : Option Item). IsFolderItem o) free h in
    let no_other : IsOther (at t) → ⊥ = λ h. subst (λ (o : Option Item). IsOther o) free h in
    record {
      source = some_item (at s) item source;
      no_other_on_folder = λ other folder. no_folder folder;
      no_folder_on_other = λ folder other. no_other other;
      bare = other_bare at t tree no_folder;
    }

pub cannot_move : (at : Tree) (s t : Names) (a b : Content) (error : DiskError) → at s ≡ Some (item_of a) → at t ≡ Some (item_of b) → FitsKinds a b (Err error) → CannotMove at s t error
cannot_move at s t Folder Folder error source target fits = cc
cannot_move at s t Folder b error source target fits =
    let is : error ≡ NotFolder = cc in
    subst (λ (e : DiskError). CannotMove at s t e) (sym is) (subst (λ (x : Option Item). IsFolderItem x) (sym source) tt, subst (λ (x : Option Item). IsOther x) (sym target) tt)
cannot_move at s t a Folder error source target fits =
    let is : error ≡ IsFolder = cc in
    subst (λ (e : DiskError). CannotMove at s t e) (sym is) (subst (λ (x : Option Item). IsOther x) (sym source) tt, subst (λ (x : Option Item). IsFolderItem x) (sym target) tt)
cannot_move at s t a b error source target fits = cc

-- both are folders, or neither is
same_kinds : (a b : Content) → FitsKinds a b (Ok tt) → (IsOther (Some (item_of a)) → IsFolderItem (Some (item_of b)) → ⊥) × (IsFolderItem (Some (item_of a)) → IsOther (Some (item_of b)) → ⊥)
same_kinds Folder Folder fits = (λ other folder. other, λ folder other. other)
same_kinds Folder b fits = absurd cc
same_kinds a Folder fits = absurd cc
same_kinds a b fits = (λ other folder. folder, λ folder other. folder)

pub moves_onto : (at : Tree) (s t : Names) (a b : Content) → at s ≡ Some (item_of a) → at t ≡ Some (item_of b) → FitsKinds a b (Ok tt) → IsBare at t → CanMove at s t
moves_onto at s t a b source target fits bare =
    let kinds = same_kinds a b fits in
    record {
      source = some_item (at s) (item_of a) source;
      no_other_on_folder = λ other folder. kinds.0 (subst (λ (o : Option Item). IsOther o) source other) (subst (λ (o : Option Item). IsFolderItem o) target folder);
      no_folder_on_other = λ folder other. kinds.1 (subst (λ (o : Option Item). IsFolderItem o) source folder) (subst (λ (o : Option Item). IsOther o) target other);
      bare = bare;
    }

folder_fits : (a b : Content) → FitsKinds a b (Ok tt) → IsFolderItem (Some (item_of b)) → IsFolderItem (Some (item_of a))
folder_fits Folder Folder fits folder = tt
folder_fits a Folder fits folder = absurd cc
folder_fits a b fits folder = absurd folder

-- names stand in the target
pub moves_onto_names : (at : Tree) (s t : Names) (a b : Content) → IsTree at → at s ≡ Some (item_of a) → at t ≡ Some (item_of b) → FitsKinds a b (Ok tt) → HasNames at t → IsFolderItem (at s) × IsFolderItem (at t) × HasNames at t
moves_onto_names at s t a b tree source target fits names =
    let folder : at t ≡ Some items.Folder = tree.parents t names.name names.stands in
    let is : IsFolderItem (at t) = subst (λ (o : Option Item). IsFolderItem o) (sym folder) tt in
    (subst (λ (o : Option Item). IsFolderItem o) (sym source) (folder_fits a b fits (subst (λ (o : Option Item). IsFolderItem o) target is)), is, names)
