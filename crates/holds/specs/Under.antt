-- Hashing a path in two parts gives the hasher the same input as hashing it whole.
use Rattle.std.specs.Prelude.{◌≡◌, ◌++◌, [], ◌∷◌, true, ℕ, List}
use Rattle.std.specs.List.{flat_map}
use Rattle.paths.specs.Stored.{fed_name}
use Rattle.std.specs.Cmp.Lexicographic.{bytes_decides, pointwise_decides}
use Rattle.std.proofs.Common.{sym, ap, ◌∙◌, append_assoc}
use Rattle.std.proofs.lemmas.List.{append-nil}
use Rattle.paths.specs.Prefixes.{Name, Names}
use Rattle.holds.specs.Numbers.{is_same_path}

fed_apart : (path : Names) (name : Name) → flat_map fed_name path ++ fed_name name ≡ flat_map fed_name (path ++ name ∷ [])
fed_apart [] name = sym (append-nil (fed_name name))
fed_apart (x ∷ path) name = append_assoc (fed_name x) (flat_map fed_name path) (fed_name name) ∙ ap (λ (ws : List (List ℕ)). fed_name x ++ ws) (fed_apart path name)

pub fed_alike : (path : Names) (name : Name) (whole : Names) → is_same_path (path ++ name ∷ []) whole ≡ true → flat_map fed_name path ++ fed_name name ≡ flat_map fed_name whole
fed_alike path name whole same = fed_apart path name ∙ ap (flat_map fed_name) ((pointwise_decides bytes_decides (path ++ name ∷ []) whole).0 same)
