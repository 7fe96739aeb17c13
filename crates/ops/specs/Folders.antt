-- The answer to a request that returns names of an open folder.
use Rattle.std.specs.Prelude.{ℕ, ◌+◌, ◌≤◌, Bool, List, [], ◌∷◌, drop, length, Option, Some, None}
use Rattle.std.specs.List.{flat_map}
use Rattle.errno.specs.declared.TheConstants.{EINVAL}
use Rattle.backing.specs.declared.call.Child.{Child}
use Rattle.handles.specs.Pages.{IsLongestRun, IsSmall}
use Rattle.wire.specs.Dirents.{Dirent, dirent_bytes}
use Rattle.wire.specs.declared.dirents.TheConstants.{NO_INO}
use Rattle.wire.specs.declared.reply.ReplyBody.{ReplyBody}
use Rattle.wire.specs.declared.reply.ReplyBody.TheVariants.{Failed, Data}

-- as many entries as fit from an offset on, or none if the first does not fit
abbrev pub IsPaged : (plus : Bool) → List Child → (offset size : ℕ) → Option (List Child) → Type 0
IsPaged plus entries offset size None = IsSmall plus size (drop offset entries)
IsPaged plus entries offset size (Some run) = IsLongestRun plus size (drop offset entries) run × (IsSmall plus size (drop offset entries) → ⊥)

-- entries from an index on, each with the offset of the next one; no node is given
abbrev pub dirents_from : ℕ → List Child → List Dirent
dirents_from at [] = []
dirents_from at (child ∷ children) = record { ino = NO_INO; next = at + 1; kind = child.kind; name = child.name } ∷ dirents_from (at + 1) children

abbrev pub names_bytes : ℕ → List Child → List ℕ
names_bytes at children = flat_map dirent_bytes (dirents_from at children)

abbrev pub names_reply : (offset : ℕ) → Option (List Child) → ReplyBody
names_reply offset None = Failed EINVAL
names_reply offset (Some run) = Data (names_bytes offset run)

-- the data of a reply, if it has any, has at most that many bytes
abbrev pub CarriesAtMost : ℕ → ReplyBody → Type 0
CarriesAtMost size (Data d) = length d ≤ size
CarriesAtMost size body = Unit {0}
