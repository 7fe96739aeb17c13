-- An item after a write.
use Rattle.std.specs.Prelude.{ℕ, List}
use Rattle.backing.specs.declared.entries.Item.{Item}
use Rattle.backing.specs.declared.entries.Item.TheVariants.{File}
use Rattle.backing.specs.declared.entries.TreeEntry.{TreeEntry}
use Rattle.backing.specs.Files.{written, resized}

abbrev pub item_written : Item → ℕ → List ℕ → Item
item_written (File bytes) offset piece = File (written bytes offset piece)
item_written item offset piece = item

abbrev pub item_resized : Item → ℕ → Item
item_resized (File bytes) size = File (resized size bytes)
item_resized item size = item

abbrev pub entry_written : TreeEntry → ℕ → List ℕ → TreeEntry
entry_written entry offset piece = record entry { item = item_written entry.item offset piece }

abbrev pub entry_resized : TreeEntry → ℕ → TreeEntry
entry_resized entry size = record entry { item = item_resized entry.item size }
