-- A name in a folder, by the folder's numbers.
use Rattle.std.specs.Prelude.{ℕ, ◌≡◌, ◌==◌, ◌&&◌, ◌++◌, ◌∷◌, [], Bool, true, List, nat_eq}
use Rattle.std.specs.Hash as fed
use Rattle.std.specs.Ordering.{eq_of_both, on}
use Rattle.std.specs.Cmp.Lexicographic.{pointwise, bytes_decides}
use Rattle.std.proofs.Common.{ap, ◌∙◌}
use Rattle.std.proofs.lemmas.Bool.{and_parts, eqb-true}
use Rattle.linux_disk.specs.declared.keys.FileKey.{FileKey}

-- the same numbers and the same bytes
abbrev pub same_key : FileKey → FileKey → Bool
same_key = eq_of_both (on (λ (k : FileKey). k.device) ◌==◌) (eq_of_both (on (λ (k : FileKey). k.inode) ◌==◌) (on (λ (k : FileKey). k.name) (pointwise nat_eq)))

abbrev pub key_of : (device inode : ℕ) → List ℕ → FileKey
key_of device inode name = record { device = device; inode = inode; name = name }

-- the key is that of the name in that folder
abbrev pub is_key : (device inode : ℕ) → List ℕ → FileKey → Bool
is_key device inode name key = same_key (key_of device inode name) key

pub key_is : (device inode : ℕ) (name : List ℕ) (key : FileKey) → is_key device inode name key ≡ true → key_of device inode name ≡ key
key_is device inode name key is =
    let parts = and_parts (device == key.device) ((inode == key.inode) && pointwise nat_eq name key.name) is in
    let parts' = and_parts (inode == key.inode) (pointwise nat_eq name key.name) parts.1 in
    ap (λ (n : ℕ). key_of n inode name) (eqb-true device key.device parts.0)
    ∙ ap (λ (n : ℕ). key_of key.device n name) (eqb-true inode key.inode parts'.0)
    ∙ ap (λ (bytes : List ℕ). key_of key.device key.inode bytes) ((bytes_decides name key.name).0 parts'.1)

pub is_key-congr : (device inode : ℕ) (name : List ℕ) (x y : FileKey) → is_key device inode name x ≡ true → is_key device inode name y ≡ same_key x y
is_key-congr device inode name x y is = ap (λ (k : FileKey). same_key k y) (key_is device inode name x is)

-- what a key feeds a hasher: the folder's numbers, and the bytes of the name
abbrev pub fed_key : (device inode : ℕ) → List ℕ → List (List ℕ)
fed_key device inode name = fed.u64 device ++ fed.u64 inode ++ name ∷ []

pub same_fed : (device other inode that : ℕ) (name more : List ℕ) → ((device == other) && ((inode == that) && pointwise nat_eq name more)) ≡ true → fed_key device inode name ≡ fed_key other that more
same_fed device other inode that name more is =
    let parts = and_parts (device == other) ((inode == that) && pointwise nat_eq name more) is in
    let parts' = and_parts (inode == that) (pointwise nat_eq name more) parts.1 in
    ap (λ (n : ℕ). fed_key n inode name) (eqb-true device other parts.0)
    ∙ ap (λ (n : ℕ). fed_key other n name) (eqb-true inode that parts'.0)
    ∙ ap (λ (bytes : List ℕ). fed_key other that bytes) ((bytes_decides name more).0 parts'.1)
