-- A request that holds its paths exclusively acts at one point.
use Rattle.std.proofs.Common.{ℕ, Option, Bool, true, false, List, [], ◌∷◌, ◌++◌, inl, inr}
use Rattle.holds.specs.declared.held.Held.{Held}
use Rattle.backing.specs.Tree.{Tree}
use Rattle.backing.specs.Calls.{Asked}
use Rattle.laws.specs.Exchanging.{AreFree}
use Rattle.laws.specs.Owning.{Each, Owns, paths_of}
use Rattle.laws.specs.Exclusive.{AreAllBeside, AreBesideOne, IsBeside}
use Rattle.laws.specs.Together.{AllFree, FreeFrom, Marked, Runs, Step, all_of, ours_of, theirs_of}
use Rattle.laws.proofs.Owning.{changes_are_free, looks_are_free, owners_are_free}
use Rattle.laws.proofs.Together.{together}

free : (held : Held) (c d : Asked) → Each (Owns held) (paths_of c) → IsBeside held (paths_of c) d → AreFree c d
free held c d mine beside = elim beside.so [
  | inl owns ↦ owners_are_free held beside.other c d beside.clear mine owns
  | inr (inl looks) ↦ looks_are_free held beside.other c d beside.clear looks.0 mine looks.1
  | inr (inr changes) ↦ changes_are_free held beside.other c d beside.clear changes.0 mine changes.1 changes.2
]

free_each : (held : Held) (step : Step) (theirs : List Step) → Each (Owns held) (paths_of step.call) → Each (λ other. IsBeside held (paths_of step.call) other.call) theirs → Each (λ other. AreFree step.call other.call) theirs
free_each held step [] mine beside = tt
free_each held step (other ∷ theirs) mine beside = (free held step.call other.call mine beside.0, free_each held step theirs mine beside.1)

free_one : (held : Held) (ours : Bool) (step : Step) (theirs : List Step) → AreBesideOne held ours step theirs → FreeFrom ours step theirs
free_one held true step theirs beside = free_each held step theirs beside.0 beside.1
free_one held false step theirs beside = tt

free_all : (held : Held) (steps : List Marked) → AreAllBeside held steps → AllFree steps
free_all held [] beside = tt
free_all held (m ∷ ms) beside = (free_one held m.ours m.step (theirs_of ms) beside.0, free_all held ms beside.1)

-- All that others did beside such a request could have been done first, and then all that it did: with the same answers, to the same tree.
pub acts_at_one_point : (limit : Option ℕ) (held : Held) (steps : List Marked) (old new : Tree) → AreAllBeside held steps → Runs limit old (all_of steps) new → Runs limit old (theirs_of steps ++ ours_of steps) new
acts_at_one_point limit held steps old new beside run = together limit steps old new (free_all held steps beside) run
