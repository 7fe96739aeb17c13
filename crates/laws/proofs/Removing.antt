-- Calls that take a name away: what they do by objects, told of paths, and that each object has one name then.
use Rattle.std.proofs.Common.{ℕ, ◌≡◌, Bool, Option, Result, Ok, Err, ◌∙◌, inl, inr}
use Rattle.paths.specs.Prefixes.{Names}
use Rattle.backing.specs.Tree.{without}
use Rattle.backing.proofs.PathLemmas.{is_path-false}
use Rattle.disk.specs.declared.error.DiskError.{DiskError}
use Rattle.disk.specs.declared.error.DiskError.TheVariants.{Absent, NotFolder, IsFolder, NotEmpty, Failed}
use Rattle.disk.specs.Answers as by_paths
use Rattle.laws.specs.Objects.{Objects, HasOneName, tree_by_paths, without_name, stands_unlinked}
use Rattle.laws.specs.ObjectAnswers.{Becomes, RemovesName, Removes, RemovesFolder, RemovesDir}
use Rattle.laws.proofs.Naming.{tree_without_name, without_name-other, once_without_name}
use Rattle.laws.proofs.Becoming.{nothing_at, becomes_tree, becomes_leads, becomes_once, stays, stays_once}

module _ {H : Type 0} (linked : Bool) (objects objects' : Objects) (old new : H → Option ℕ) where
  rest_stay : (q : Names) → Becomes (without_name objects.at q) objects.item old objects' new → by_paths.AllStayBut q (stands_unlinked linked objects old) (stands_unlinked linked objects' new)
  rest_stay q became handle p apart (free, led) =
      (free, becomes_leads (without_name objects.at q) objects.item old objects' new became handle led.object p led.holds (without_name-other objects.at q p (is_path-false q p apart) ∙ led.stands))

  gone_tree : (q : Names) → Becomes (without_name objects.at q) objects.item old objects' new → tree_by_paths objects' ≡ without (tree_by_paths objects) q
  gone_tree q became = becomes_tree (without_name objects.at q) objects.item old objects' new became ∙ tree_without_name objects.at objects.item q

  removes_name : (q : Names) → RemovesName objects old q objects' new
      → by_paths.RemovesFile (tree_by_paths objects) (stands_unlinked linked objects old) q (tree_by_paths objects') (stands_unlinked linked objects' new)
  removes_name q did = record { other = did.other; tree = gone_tree q did.becomes; stay = rest_stay q did.becomes }

  pub removes : (q : Names) (result : Result (Unit {0}) DiskError) → Removes objects old q result objects' new
      → by_paths.Removes (tree_by_paths objects) (stands_unlinked linked objects old) q result (tree_by_paths objects') (stands_unlinked linked objects' new)
  removes q (Ok done) did = removes_name q did
  removes q (Err Absent) (none, did) = (nothing_at objects q none, stays linked objects objects' old new did)
  removes q (Err IsFolder) (folder, did) = (folder, stays linked objects objects' old new did)
  removes q (Err (Failed errno)) (inl none) = inl (stays linked objects objects' old new none)
  removes q (Err (Failed errno)) (inr did) = inr (removes_name q did)
  removes q (Err error) did = stays linked objects objects' old new did

  removes_folder : (q : Names) → RemovesFolder objects old q objects' new
      → by_paths.RemovesFolder (tree_by_paths objects) (stands_unlinked linked objects old) q (tree_by_paths objects') (stands_unlinked linked objects' new)
  removes_folder q did = record { folder = did.folder; bare = did.bare; tree = gone_tree q did.becomes; stay = rest_stay q did.becomes }

  pub removes_dir : (q : Names) (result : Result (Unit {0}) DiskError) → RemovesDir objects old q result objects' new
      → by_paths.RemovesDir (tree_by_paths objects) (stands_unlinked linked objects old) q result (tree_by_paths objects') (stands_unlinked linked objects' new)
  removes_dir q (Ok done) did = removes_folder q did
  removes_dir q (Err Absent) (none, did) = (nothing_at objects q none, stays linked objects objects' old new did)
  removes_dir q (Err NotFolder) (other, did) = (other, stays linked objects objects' old new did)
  removes_dir q (Err NotEmpty) (folder, names, did) = (folder, names, stays linked objects objects' old new did)
  removes_dir q (Err (Failed errno)) (inl none) = inl (stays linked objects objects' old new none)
  removes_dir q (Err (Failed errno)) (inr did) = inr (removes_folder q did)
  removes_dir q (Err error) did = stays linked objects objects' old new did

module _ {H : Type 0} (objects objects' : Objects) (old new : H → Option ℕ) (one : HasOneName objects.at) where
  gone_once : (q : Names) → Becomes (without_name objects.at q) objects.item old objects' new → HasOneName objects'.at
  gone_once q became = becomes_once (without_name objects.at q) objects.item old objects' new became (once_without_name objects.at q one)

  pub removes_once : (q : Names) (result : Result (Unit {0}) DiskError) → Removes objects old q result objects' new → HasOneName objects'.at
  removes_once q (Ok done) did = gone_once q did.becomes
  removes_once q (Err Absent) did = stays_once objects objects' old new one did.1
  removes_once q (Err IsFolder) did = stays_once objects objects' old new one did.1
  removes_once q (Err (Failed errno)) (inl none) = stays_once objects objects' old new one none
  removes_once q (Err (Failed errno)) (inr did) = gone_once q did.becomes
  removes_once q (Err error) did = stays_once objects objects' old new one did

  pub removes_dir_once : (q : Names) (result : Result (Unit {0}) DiskError) → RemovesDir objects old q result objects' new → HasOneName objects'.at
  removes_dir_once q (Ok done) did = gone_once q did.becomes
  removes_dir_once q (Err Absent) did = stays_once objects objects' old new one did.1
  removes_dir_once q (Err NotFolder) did = stays_once objects objects' old new one did.1
  removes_dir_once q (Err NotEmpty) did = stays_once objects objects' old new one did.2
  removes_dir_once q (Err (Failed errno)) (inl none) = stays_once objects objects' old new one none
  removes_dir_once q (Err (Failed errno)) (inr did) = gone_once q did.becomes
  removes_dir_once q (Err error) did = stays_once objects objects' old new one did
