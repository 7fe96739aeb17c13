-- What is found among entries.
use Rattle.std.specs.Prelude.{ℕ, ◌≡◌, ◌⊎◌, List, Option, Some, None}
use Rattle.std.specs.Option.{option_map}
use Rattle.std.specs.Map.{lookup}
use Rattle.paths.specs.Prefixes.{Name}
use Rattle.path_cache.specs.declared.keys.Key.{Key}
use Rattle.path_cache.specs.declared.entries.Entry.{Entry}
use Rattle.path_cache.specs.Keys.{is_key}
use Rattle.path_cache.specs.Walks.{Kept, Finds, with_found}

abbrev pub Entries : Type 0 → Type 0
Entries V = List (Key × Entry V)

abbrev pub kept_of : {V : Type 0} → Entry V → Kept V
kept_of entry = record { number = entry.number; value = entry.value }

-- the entry under a name in the folder of a number
abbrev pub entry_in : {V : Type 0} → Entries V → ℕ → Name → Option (Entry V)
entry_in es n name = lookup (is_key n name) es

-- its number and its value
unfoldable pub found : {V : Type 0} → Entries V → Finds V
found es n name = option_map kept_of (entry_in es n name)

-- the entry, if there is one, is found under the name, or nothing has changed
abbrev pub MayPut : {V : Type 0} → Finds V → ℕ → Name → Option (Kept V) → Finds V → Type 0
MayPut old n name None new = new ≡ old
MayPut old n name (Some entry) new = (new ≡ old) ⊎ (new ≡ with_found old n name entry)

-- 1 where there is something
abbrev pub weight : {T : Type 0} → Option T → ℕ
weight None = 0
weight (Some x) = 1
