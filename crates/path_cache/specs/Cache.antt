-- A cache by what is kept at each path. The empty path is the root's.
use Rattle.std.specs.Prelude.{ℕ, ◌≡◌, ◌⊎◌, [], ◌∷◌, ◌++◌, false, if◌then◌else◌, Option, Some, None, length, drop}
use Rattle.std.specs.Option.{option_map}
use Rattle.paths.specs.Prefixes.{Name, Names, is_prefix}
use Rattle.path_cache.specs.declared.entries.Entry.{Entry}
use Rattle.path_cache.specs.declared.places.Place.{Place}
use Rattle.path_cache.specs.declared.places.Place.TheVariants as place
use Rattle.path_cache.specs.Walks.{values_by, numbers_by}
use Rattle.path_cache.specs.Entries.{Entries, entry_in, found}

pub record Cache (V : Type 0) : Type 0 where
  -- the least recently used last
  pub entries : Entries V
  -- so many there may be
  pub capacity : ℕ
  -- the number of the next entry
  pub next : ℕ
  pub root : V
  pub root_looked : ℕ

-- the value at a path
unfoldable pub kept_at : {V : Type 0} → Cache V → Names → Option V
kept_at c p = values_by (found c.entries) c.root p

-- the number of the entry at a path
unfoldable pub number_at : {V : Type 0} → Cache V → Names → Option ℕ
number_at c p = numbers_by (found c.entries) c.root p

-- the path goes by that name from a folder's entry to another, and those have these numbers
pub record IsChild {V : Type 0} (c : Cache V) (parent : ℕ) (name : Name) (number : ℕ) (p : Names) : Type 0 where
  pub up : Names
  pub whole : p ≡ up ++ name ∷ []
  pub above : number_at c up ≡ Some parent
  pub here : number_at c p ≡ Some number

abbrev pub Leads : {V : Type 0} → Cache V → Place → Names → Type 0
Leads c place.Root p = p ≡ []
Leads c (place.Child parent name number) p = IsChild c parent name.now number p

-- that place is where that path is kept
pub record IsAt {V : Type 0} (c : Cache V) (place : Place) (p : Names) : Type 0 where
  pub leads : Leads c place p

-- the value at a place
unfoldable pub value_at : {V : Type 0} → Cache V → Place → Option V
value_at {V} c place.Root = Some c.root
value_at {V} c (place.Child parent name number) = option_map (λ (e : Entry V). e.value) (entry_in c.entries parent name.now)

-- when it was last seen to stand there
unfoldable pub looked_at : {V : Type 0} → Cache V → Place → Option ℕ
looked_at {V} c place.Root = Some c.root_looked
looked_at {V} c (place.Child parent name number) = option_map (λ (e : Entry V). e.looked) (entry_in c.entries parent name.now)

-- how many there are besides the root
abbrev pub count_of : {V : Type 0} → Cache V → ℕ
count_of c = length c.entries

-- so many there may be besides the root
abbrev pub capacity_of : {V : Type 0} → Cache V → ℕ
capacity_of c = c.capacity

-- the value at a path, and nothing below it
abbrev pub with_value : {V : Type 0} → (Names → Option V) → Names → V → Names → Option V
with_value kept path value p = if is_prefix path p then (if is_prefix p path then Some value else None) else kept p

-- nothing at a path and below it
abbrev pub without_all : {V : Type 0} → (Names → Option V) → Names → Names → Option V
without_all kept path p = if is_prefix path p then None else kept p

-- the value at the root alone
abbrev pub at_root : {V : Type 0} → V → Names → Option V
at_root root [] = Some root
at_root root (name ∷ names) = None

-- nothing but what is at the root
abbrev pub root_alone : {V : Type 0} → (Names → Option V) → Names → Option V
root_alone kept [] = kept []
root_alone kept (name ∷ names) = None

-- what was at s or below it is at t or below it, and no longer where it was
abbrev pub relocated : {V : Type 0} → (Names → Option V) → Names → Names → Names → Option V
relocated kept s t p = if is_prefix t p then kept (s ++ drop (length t) p) else (if is_prefix s p then None else kept p)

-- The one path was relocated to the other, or for want of memory nothing is kept at either or below it.
pub record IsRelocated {V : Type 0} (old : Names → Option V) (s t : Names) (new : Names → Option V) : Type 0 where
  pub cases : ((p : Names) → new p ≡ relocated old s t p) ⊎ ((p : Names) → new p ≡ without_all (without_all old s) t p)

-- neither path leads to the other
pub record AreApart (s t : Names) : Type 0 where
  pub not_above : is_prefix s t ≡ false
  pub not_below : is_prefix t s ≡ false
