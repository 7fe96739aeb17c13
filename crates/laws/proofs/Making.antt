-- Calls that change what an object is, or make one: what they do by objects, told of paths, and that each object has one name then.
use Rattle.std.proofs.Common.{ℕ, ◌≡◌, Bool, false, List, [], Option, Some, Result, Ok, Err, sym, ap, ◌∙◌, inl, inr, take}
use Rattle.std.proofs.lemmas.Option.{none-some}
use Rattle.paths.specs.Prefixes.{Names}
use Rattle.backing.specs.declared.entries.Item.{Item}
use Rattle.backing.specs.declared.entries.Item.TheVariants.{Folder, File, Link}
use Rattle.backing.specs.Files.{written, resized}
use Rattle.backing.specs.Tree.{with_item}
use Rattle.disk.specs.declared.error.DiskError.{DiskError}
use Rattle.disk.specs.declared.error.DiskError.TheVariants.{Exists, Failed}
use Rattle.disk.specs.Answers as by_paths
use Rattle.laws.specs.Objects.{Objects, HasOneName, AllAreItems, tree_by_paths, with_name, with_object, stands_unlinked}
use Rattle.laws.specs.ObjectAnswers.{BecomesItem, Writes, CutsFile, Cuts, MakesItem, MakesNone, Makes, MakesOther}
use Rattle.laws.proofs.Naming.{tree_with_object, tree_with_name, with_name-other, once_with_name}
use Rattle.laws.proofs.Becoming.{nothing_at, item_at, something_at, becomes_tree, becomes_leads, becomes_once, all_stay, stays, stays_once}

module _ {H : Type 0} (linked : Bool) (objects objects' : Objects) (old new : H → Option ℕ) (one : HasOneName objects.at) where
  changed_tree : (p : Names) (object : ℕ) (item : Item) → objects.at p ≡ Some object → BecomesItem objects old object item objects' new → tree_by_paths objects' ≡ with_item (tree_by_paths objects) p item
  changed_tree p object item stands became =
      becomes_tree objects.at (with_object objects.item object item) old objects' new became ∙ tree_with_object objects.at objects.item p object item one stands

  pub writes : (p : Names) (object offset : ℕ) (piece : List ℕ) (result : Result ℕ DiskError) → objects.at p ≡ Some object → Writes objects old object offset piece result objects' new
      → by_paths.Writes (tree_by_paths objects) (stands_unlinked linked objects old) p offset piece result (tree_by_paths objects') (stands_unlinked linked objects' new)
  writes p object offset piece (Ok n) stands did = record {
    some = did.some;
    bytes = did.bytes;
    stands = item_at objects p object (Some (File did.bytes)) stands did.was;
    tree = changed_tree p object (File (written did.bytes offset (take n piece))) stands did.becomes;
    stay = all_stay linked objects objects' old new (with_object objects.item object (File (written did.bytes offset (take n piece)))) did.becomes;
  }
  writes p object offset piece (Err error) stands did = stays linked objects objects' old new did

  cuts_file : (p : Names) (object size : ℕ) → objects.at p ≡ Some object → CutsFile objects old object size objects' new
      → by_paths.CutsFile (tree_by_paths objects) (stands_unlinked linked objects old) p size (tree_by_paths objects') (stands_unlinked linked objects' new)
  cuts_file p object size stands did = record {
    bytes = did.bytes;
    stands = item_at objects p object (Some (File did.bytes)) stands did.was;
    tree = changed_tree p object (File (resized size did.bytes)) stands did.becomes;
    stay = all_stay linked objects objects' old new (with_object objects.item object (File (resized size did.bytes))) did.becomes;
  }

  pub cuts : (p : Names) (object size : ℕ) (result : Result (Unit {0}) DiskError) → objects.at p ≡ Some object → Cuts objects old object size result objects' new
      → by_paths.Cuts (tree_by_paths objects) (stands_unlinked linked objects old) p size result (tree_by_paths objects') (stands_unlinked linked objects' new)
  cuts p object size (Ok done) stands did = cuts_file p object size stands did
  cuts p object size (Err (Failed errno)) stands (inl none) = inl (stays linked objects objects' old new none)
  cuts p object size (Err (Failed errno)) stands (inr did) = inr (cuts_file p object size stands did)
  cuts p object size (Err error) stands did = stays linked objects objects' old new did

module _ {H : Type 0} (objects objects' : Objects) (old new : H → Option ℕ) (one : HasOneName objects.at) where
  pub writes_once : (object offset : ℕ) (piece : List ℕ) (result : Result ℕ DiskError) → Writes objects old object offset piece result objects' new → HasOneName objects'.at
  writes_once object offset piece (Ok n) did = becomes_once objects.at (with_object objects.item object (File (written did.bytes offset (take n piece)))) old objects' new did.becomes one
  writes_once object offset piece (Err error) did = stays_once objects objects' old new one did

  cuts_file_once : (object size : ℕ) → CutsFile objects old object size objects' new → HasOneName objects'.at
  cuts_file_once object size did = becomes_once objects.at (with_object objects.item object (File (resized size did.bytes))) old objects' new did.becomes one

  pub cuts_once : (object size : ℕ) (result : Result (Unit {0}) DiskError) → Cuts objects old object size result objects' new → HasOneName objects'.at
  cuts_once object size (Ok done) did = cuts_file_once object size did
  cuts_once object size (Err (Failed errno)) (inl none) = stays_once objects objects' old new one none
  cuts_once object size (Err (Failed errno)) (inr did) = cuts_file_once object size did
  cuts_once object size (Err error) did = stays_once objects objects' old new one did

  makes_item_once : (q : Names) (item : Item) → MakesItem objects old q item objects' new → HasOneName objects'.at
  makes_item_once q item did =
      becomes_once (with_name objects.at q did.object) (with_object objects.item did.object item) old objects' new did.becomes (once_with_name objects.at q did.object one did.fresh)

  makes_none_once : (q : Names) (item : Item) (error : DiskError) → MakesNone objects old q item error objects' new → HasOneName objects'.at
  makes_none_once q item Exists did = stays_once objects objects' old new one did.1
  makes_none_once q item (Failed errno) (inl none) = stays_once objects objects' old new one none
  makes_none_once q item (Failed errno) (inr did) = makes_item_once q item did
  makes_none_once q item error did = stays_once objects objects' old new one did

  pub makes_once : (q : Names) (result : Result H DiskError) → Makes objects old q result objects' new → HasOneName objects'.at
  makes_once q (Ok handle) did = makes_item_once q (File []) did.0
  makes_once q (Err error) did = makes_none_once q (File []) error did

  pub makes_other_once : (q : Names) (item : Item) (result : Result (Unit {0}) DiskError) → MakesOther objects old q item result objects' new → HasOneName objects'.at
  makes_other_once q item (Ok done) did = makes_item_once q item did
  makes_other_once q item (Err error) did = makes_none_once q item error did

module _ {H : Type 0} (linked : Bool) (objects objects' : Objects) (old new : H → Option ℕ) (are : AllAreItems objects) where
  made_stay : (q : Names) (item : Item) → MakesItem objects old q item objects' new → by_paths.AllStay (stands_unlinked linked objects old) (stands_unlinked linked objects' new)
  made_stay q item did handle p (free, led) =
      let apart : q ≡ p → ⊥ = λ e. none-some led.object (sym did.free ∙ (ap (λ (r : Names). objects.at r) e ∙ led.stands)) in
      (free, becomes_leads (with_name objects.at q did.object) (with_object objects.item did.object item) old objects' new did.becomes handle led.object p led.holds (with_name-other objects.at q did.object p apart ∙ led.stands))

  makes_item : (q : Names) (item : Item) → MakesItem objects old q item objects' new
      → by_paths.MakesItem (tree_by_paths objects) (stands_unlinked linked objects old) q item (tree_by_paths objects') (stands_unlinked linked objects' new)
  makes_item q item did = record {
    free = nothing_at objects q did.free;
    tree = becomes_tree (with_name objects.at q did.object) (with_object objects.item did.object item) old objects' new did.becomes ∙ tree_with_name objects.at objects.item q did.object item did.fresh;
    stay = made_stay q item did;
  }

  makes_none : (q : Names) (item : Item) (error : DiskError) → MakesNone objects old q item error objects' new
      → by_paths.MakesNone (tree_by_paths objects) (stands_unlinked linked objects old) q item error (tree_by_paths objects') (stands_unlinked linked objects' new)
  makes_none q item Exists (some, did) = (something_at objects q are some, stays linked objects objects' old new did)
  makes_none q item (Failed errno) (inl none) = inl (stays linked objects objects' old new none)
  makes_none q item (Failed errno) (inr did) = inr (makes_item q item did)
  makes_none q item error did = stays linked objects objects' old new did

  pub makes : (q : Names) (result : Result H DiskError) → linked ≡ false → Makes objects old q result objects' new
      → by_paths.Makes (tree_by_paths objects) (stands_unlinked linked objects old) q result (tree_by_paths objects') (stands_unlinked linked objects' new)
  makes q (Ok handle) free (did, led) = (makes_item q (File []) did, (free, led))
  makes q (Err error) free did = makes_none q (File []) error did

  pub makes_dir : (q : Names) (result : Result (Unit {0}) DiskError) → MakesOther objects old q Folder result objects' new
      → by_paths.MakesDir (tree_by_paths objects) (stands_unlinked linked objects old) q result (tree_by_paths objects') (stands_unlinked linked objects' new)
  makes_dir q (Ok done) did = makes_item q Folder did
  makes_dir q (Err error) did = makes_none q Folder error did

  pub makes_link : (q : Names) (text : List ℕ) (result : Result (Unit {0}) DiskError) → MakesOther objects old q (Link text) result objects' new
      → by_paths.MakesLink (tree_by_paths objects) (stands_unlinked linked objects old) q text result (tree_by_paths objects') (stands_unlinked linked objects' new)
  makes_link q text (Ok done) did = makes_item q (Link text) did
  makes_link q text (Err error) did = makes_none q (Link text) error did
