-- When two keys are the same, and when a key is that of a name in a folder.
use Rattle.std.specs.Prelude.{ℕ, ◌≡◌, ◌==◌, ◌&&◌, ◌++◌, ◌∷◌, [], List, Bool, true, nat_eq}
use Rattle.std.specs.Hash as fed
use Rattle.std.specs.Ordering.{eq_of_both, on}
use Rattle.std.specs.Cmp.Lexicographic.{pointwise, bytes_decides}
use Rattle.std.proofs.Common.{ap, ◌∙◌}
use Rattle.std.proofs.lemmas.Bool.{and_parts, eqb-true}
use Rattle.paths.specs.Prefixes.{Name}
use Rattle.path_cache.specs.declared.keys.Key.{Key}

-- the same parent and the same bytes
abbrev pub same_key : Key → Key → Bool
same_key = eq_of_both (on (λ (k : Key). k.parent) ◌==◌) (on (λ (k : Key). k.name) (pointwise nat_eq))

abbrev pub key_of : ℕ → Name → Key
key_of parent name = record { parent = parent; name = name }

-- the key is that of the name in the folder of that number
abbrev pub is_key : ℕ → Name → Key → Bool
is_key parent name key = same_key (key_of parent name) key

pub key_is : (parent : ℕ) (name : Name) (key : Key) → is_key parent name key ≡ true → key_of parent name ≡ key
key_is parent name key is =
    let parts = and_parts (parent == key.parent) (pointwise nat_eq name key.name) is in
    ap (λ (n : ℕ). key_of n name) (eqb-true parent key.parent parts.0)
    ∙ ap (λ (bytes : Name). key_of key.parent bytes) ((bytes_decides name key.name).0 parts.1)

pub is_key-congr : (parent : ℕ) (name : Name) (x y : Key) → is_key parent name x ≡ true → is_key parent name y ≡ same_key x y
is_key-congr parent name x y is = ap (λ (k : Key). same_key k y) (key_is parent name x is)

-- what a key feeds a hasher: the number of the folder's entry, and the bytes of the name
abbrev pub fed_key : ℕ → Name → List (List ℕ)
fed_key parent name = fed.u64 parent ++ name ∷ []

pub same_fed : (parent other : ℕ) (name that : Name) → ((parent == other) && pointwise nat_eq name that) ≡ true → fed_key parent name ≡ fed_key other that
same_fed parent other name that is =
    let parts = and_parts (parent == other) (pointwise nat_eq name that) is in
    ap (λ (n : ℕ). fed_key n name) (eqb-true parent other parts.0)
    ∙ ap (λ (bytes : Name). fed_key other bytes) ((bytes_decides name that).0 parts.1)
