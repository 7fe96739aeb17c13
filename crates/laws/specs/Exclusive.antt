-- A request that holds all its paths exclusively, and what others do beside it.
use Rattle.std.specs.Prelude.{◌⊎◌, Bool, true, false, List, [], ◌∷◌}
use Rattle.paths.specs.Prefixes.{Names}
use Rattle.holds.specs.declared.held.Held.{Held}
use Rattle.holds.specs.Conflicts.{Conflict}
use Rattle.backing.specs.Calls.{Asked}
use Rattle.laws.specs.Owning.{Each, Keeps, Owns, IsAtPath, IsLook, StandsApart, paths_of}
use Rattle.laws.specs.Together.{Marked, Step, theirs_of}

-- A call of another request, whose holds do not clash: at paths that it holds exclusively, or a look at one that it holds in any way, or a
-- change there that stands above none of these.
pub record IsBeside (held : Held) (paths : List Names) (call : Asked) : Type 0 where
  pub other : Held
  pub clear : Conflict held other → ⊥
  pub so : Each (Owns other) (paths_of call) ⊎ (IsLook call × Each (Keeps other) (paths_of call)) ⊎ (IsAtPath call × Each (Keeps other) (paths_of call) × Each (StandsApart (paths_of call)) paths)

abbrev pub AreBesideOne : Held → Bool → Step → List Step → Type 0
AreBesideOne held true step theirs = Each (Owns held) (paths_of step.call) × Each (λ other. IsBeside held (paths_of step.call) other.call) theirs
AreBesideOne held false step theirs = Unit {0}

-- each call of the request is at paths that it holds exclusively, and each later one of another is such
abbrev pub AreAllBeside : Held → List Marked → Type 0
AreAllBeside held [] = Unit {0}
AreAllBeside held (m ∷ ms) = AreBesideOne held m.ours m.step (theirs_of ms) × AreAllBeside held ms
