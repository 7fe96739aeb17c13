-- Paths of sockets.
use Rattle.std.specs.Prelude.{ℕ, ◌≡◌, ◌⊎◌, ◌++◌, ◌∷◌, List}

-- the path itself, which begins with a slash, or a directory, a slash and the path
abbrev pub IsFromRoot : (path whole : List ℕ) → Type 0
IsFromRoot path whole = ((rest : List ℕ) × (path ≡ 47 ∷ rest) × (whole ≡ path)) ⊎ ((directory : List ℕ) × (whole ≡ directory ++ 47 ∷ path))
