-- Which names a session takes.
use Rattle.std.specs.Prelude.{ℕ, List}
use Rattle.std.specs.Str.{IsUtf8}
use Rattle.terms.specs.declared.settings.Names.{Names}
use Rattle.terms.specs.declared.settings.Names.TheVariants.{Text, Bytes}

-- UTF-8, where names are texts
abbrev pub IsSpelled : Names → List ℕ → Type 0
IsSpelled Text name = IsUtf8 name
IsSpelled Bytes name = Unit {0}
