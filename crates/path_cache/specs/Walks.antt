-- Paths as walks from entry to entry, over whatever finds an entry under a name in the folder of a number.
use Rattle.std.specs.Prelude.{ℕ, ◌≡◌, ◌<◌, ◌==◌, ◌&&◌, nat_eq, if◌then◌else◌, [], ◌∷◌, Option, Some, None}
use Rattle.std.specs.Option.{option_map}
use Rattle.std.specs.Cmp.Lexicographic.{pointwise}
use Rattle.paths.specs.Prefixes.{Name, Names}

-- an entry's number, and the value that is kept
pub record Kept (V : Type 0) : Type 0 where
  pub number : ℕ
  pub value : V

-- what is found under a name in the folder of a number
abbrev pub Finds : Type 0 → Type 0
Finds V = ℕ → Name → Option (Kept V)

-- a name further down
abbrev pub step : {V : Type 0} → Finds V → Option (Kept V) → Name → Option (Kept V)
step find None name = None
step find (Some entry) name = find entry.number name

-- all these names further down
abbrev pub walk : {V : Type 0} → Finds V → Option (Kept V) → Names → Option (Kept V)
walk find from [] = from
walk find from (name ∷ names) = walk find (step find from name) names

-- the root's entry
abbrev pub root_of : {V : Type 0} → V → Kept V
root_of value = record { number = 0; value = value }

-- the entry at a path from the root
unfoldable pub reached : {V : Type 0} → Finds V → V → Names → Option (Kept V)
reached find root p = walk find (Some (root_of root)) p

-- its value
abbrev pub values_by : {V : Type 0} → Finds V → V → Names → Option V
values_by {V} find root p = option_map (λ (k : Kept V). k.value) (reached find root p)

-- its number
abbrev pub numbers_by : {V : Type 0} → Finds V → V → Names → Option ℕ
numbers_by {V} find root p = option_map (λ (k : Kept V). k.number) (reached find root p)

-- the same, but that the entry is found under the name
abbrev pub with_found : {V : Type 0} → Finds V → ℕ → Name → Kept V → Finds V
with_found find n name entry = λ m other. if (n == m) && pointwise nat_eq name other then Some entry else find m other

-- the same, but that nothing is
abbrev pub without_found : {V : Type 0} → Finds V → ℕ → Name → Finds V
without_found find n name = λ m other. if (n == m) && pointwise nat_eq name other then None else find m other

-- No number is that of two entries, and each is below the next one. So is the number of each folder that an entry is in.
pub record IsNumbered {V : Type 0} (find : Finds V) (next : ℕ) : Type 0 where
  pub apart : (n m : ℕ) (x y : Name) (e f : Kept V) → find n x ≡ Some e → find m y ≡ Some f → e.number ≡ f.number → (n ≡ m) × (x ≡ y)
  pub positive : (n : ℕ) (x : Name) (e : Kept V) → find n x ≡ Some e → 0 < e.number
  pub below : (n : ℕ) (x : Name) (e : Kept V) → find n x ≡ Some e → e.number < next
  pub parents : (n : ℕ) (x : Name) (e : Kept V) → find n x ≡ Some e → n < next
  pub begun : 0 < next
