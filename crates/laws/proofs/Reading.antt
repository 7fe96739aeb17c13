-- What a call that changes nothing tells by objects, told of a path.
use Rattle.std.proofs.Common.{ℕ, ◌≡◌, Bool, false, List, [], Option, Some, None, Result, Ok, Err, IfOk, IfSome, OnOk}
use Rattle.paths.specs.Prefixes.{Names}
use Rattle.backing.specs.declared.entries.Item.TheVariants.{File}
use Rattle.disk.specs.declared.stat.Stat.{Stat}
use Rattle.disk.specs.declared.error.DiskError.{DiskError}
use Rattle.disk.specs.declared.error.DiskError.TheVariants.{Absent, NotFolder, IsFolder}
use Rattle.disk.specs.Answers as by_paths
use Rattle.laws.specs.Objects.{Objects, ObjectAt, LeadsTo, tree_by_paths, stands_in, stands_unlinked}
use Rattle.laws.specs.ObjectAnswers.{Inspects, Reads}
use Rattle.laws.proofs.Becoming.{item_at}

pub inspects : (objects : Objects) (p : Names) (object : ℕ) (result : Result Stat DiskError) → objects.at p ≡ Some object → Inspects (objects.item object) result → by_paths.Inspects (tree_by_paths objects) p result
inspects objects p object (Ok stat) stands told = record { item = told.item; stands = item_at objects p object (Some told.item) stands told.is; kind = told.kind; size = told.size }
inspects objects p object (Err error) stands told = tt

pub reads : (objects : Objects) (p : Names) (object offset : ℕ) (result : Result ℕ DiskError) (buffer : List ℕ) → objects.at p ≡ Some object → Reads (objects.item object) offset result buffer → by_paths.Reads (tree_by_paths objects) p offset result buffer
reads objects p object offset (Ok n) buffer stands told = record { bytes = told.bytes; stands = item_at objects p object (Some (File told.bytes)) stands told.is; read = told.read; held = told.held; end = told.end }
reads objects p object offset (Err error) buffer stands told = tt

pub done_at : (objects : Objects) (p : Names) (object : ℕ) (Holds : ℕ → Type 0) (result : Result (Unit {0}) DiskError) → objects.at p ≡ Some object → OnOk result (Holds object) → OnOk result (ObjectAt objects p Holds)
done_at objects p object Holds (Ok done) stands holds = record { object = object; stands = stands; holds = holds }
done_at objects p object Holds (Err error) stands holds = tt

module _ {H : Type 0} (linked : Bool) (objects : Objects) (opens : H → Option ℕ) (free : linked ≡ false) where
  pub finds_open : (q : Names) (result : Option H) → IfSome result (by_paths.StandsAsFile (tree_by_paths objects) (stands_in objects opens) q) → IfSome result (by_paths.StandsAsFile (tree_by_paths objects) (stands_unlinked linked objects opens) q)
  finds_open q None found = tt
  finds_open q (Some handle) (led, file) = ((free, led), file)

  pub opens_root : (result : Result H DiskError) → IfOk result (λ handle. LeadsTo objects (opens handle) []) → IfOk result (λ handle. Unit {0} → stands_unlinked linked objects opens handle [])
  opens_root (Ok handle) led = λ honest. (free, led)
  opens_root (Err error) led = tt

  pub opens_dir : (q : Names) (result : Result H DiskError) → by_paths.OpensDir (tree_by_paths objects) (stands_in objects opens) q result → by_paths.OpensDir (tree_by_paths objects) (stands_unlinked linked objects opens) q result
  opens_dir q (Ok handle) (led, folder) = ((free, led), folder)
  opens_dir q (Err Absent) told = told
  opens_dir q (Err NotFolder) told = told
  opens_dir q (Err error) told = tt

  pub opens_file : (q : Names) (result : Result H DiskError) → by_paths.OpensFile (tree_by_paths objects) (stands_in objects opens) q result → by_paths.OpensFile (tree_by_paths objects) (stands_unlinked linked objects opens) q result
  opens_file q (Ok handle) (led, file) = ((free, led), file)
  opens_file q (Err Absent) told = told
  opens_file q (Err IsFolder) told = told
  opens_file q (Err error) told = tt
