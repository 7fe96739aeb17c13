-- Files that are kept open.
use Rattle.std.specs.Prelude.{◌≡◌, ◌⊎◌, Bool, true, Option, Some, None, List}
use Rattle.std.specs.Arc.{arc_value}
use Rattle.std.specs.Map.{lookup, remove_entry}
use Rattle.lru.specs.LruCache.{LruCache, lru_cache, put_entries}
use Rattle.disk.specs.declared.stat.Access.{Access}
use Rattle.disk.specs.Opened.{serves}
use Rattle.linux_disk.specs.Keys.{same_key}
use Rattle.linux_disk.specs.declared.keys.FileKey.{FileKey}
use Rattle.linux_disk.specs.declared.files.KeptFile.{KeptFile}

-- it is the file that is kept under that key, and serves
pub record IsServed {F : Type 0} (files : List (FileKey × KeptFile F)) (is : FileKey → Bool) (access : Access) (found : KeptFile F) : Type 0 where
  pub kept : KeptFile F
  pub there : lookup is files ≡ Some kept
  pub same : arc_value found.file ≡ arc_value kept.file
  pub seen : found.seen ≡ kept.seen
  pub serves : serves kept.access access ≡ true

-- with that file under the key, if there was memory for it
pub record IsPut {F : Type 0} (old : LruCache FileKey (KeptFile F)) (key : FileKey) (kept : KeptFile F) (new : LruCache FileKey (KeptFile F)) : Type 0 where
  pub result : (new ≡ old) ⊎ (new ≡ lru_cache (put_entries same_key old key kept) old.cap)

-- What was kept under the first key is kept under the other one, if there was memory for it, and what was kept there is not any more.
abbrev pub Moves : {F : Type 0} → LruCache FileKey (KeptFile F) → Option (KeptFile F) → FileKey → LruCache FileKey (KeptFile F) → Type 0
Moves old None key new = new ≡ old
Moves old (Some kept) key new = IsPut old key kept new

abbrev pub taken_out : {F : Type 0} → LruCache FileKey (KeptFile F) → (FileKey → Bool) → LruCache FileKey (KeptFile F)
taken_out old is = lru_cache (remove_entry is old.entries) old.cap
