-- The calls of a request can be brought together.
use Rattle.std.proofs.Common.{ℕ, Option, Bool, true, false, List, [], ◌∷◌, ◌++◌}
use Rattle.backing.specs.Tree.{Tree}
use Rattle.backing.specs.Device.{Performs}
use Rattle.laws.specs.Exchanging.{AreFree}
use Rattle.laws.specs.Owning.{Each}
use Rattle.laws.specs.Together.{Step, Runs, Marked, AllFree, FreeFrom, all_of, if_ours, if_theirs, ours_of, theirs_of}
use Rattle.laws.proofs.Swapping.{exchange}

-- a step is made after those that are free of it
later : (limit : Option ℕ) (t m r : Tree) (step : Step) (before after : List Step) → Performs limit t step.device step.call step.answer m → Runs limit m (before ++ after) r → Each (λ other. AreFree step.call other.call) before → Runs limit t (before ++ step ∷ after) r
later limit t m r step [] after one rest free = (m, one, rest)
later limit t m r step (other ∷ before) after one rest free =
    let it = exchange limit t m rest.0 step.device other.device step.call other.call step.answer other.answer free.0 one rest.1 in
    (it.0, it.1, later limit it.0 rest.0 r step before after it.2 rest.2 free.1)

place : (limit : Option ℕ) (ours : Bool) (step : Step) (t m r : Tree) (theirs own : List Step) → Performs limit t step.device step.call step.answer m → Runs limit m (theirs ++ own) r → FreeFrom ours step theirs → Runs limit t (if_theirs ours step theirs ++ if_ours ours step own) r
place limit true step t m r theirs own one rest free = later limit t m r step theirs own one rest free
place limit false step t m r theirs own one rest free = (m, one, rest)

-- Where the request's calls are free of what others did after them, all that others did can be done first, and then all that the request
-- did: with the same answers, and to the same tree.
pub together : (limit : Option ℕ) (steps : List Marked) (t r : Tree) → AllFree steps → Runs limit t (all_of steps) r → Runs limit t (theirs_of steps ++ ours_of steps) r
together limit [] t r free run = run
together limit (m ∷ ms) t r free run = place limit m.ours m.step t run.0 r (theirs_of ms) (ours_of ms) run.1 (together limit ms run.0 r free.1 run.2) free.0
