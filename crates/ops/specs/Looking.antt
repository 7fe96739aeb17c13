-- Looking at several paths, one after another.
use Rattle.std.specs.Prelude.{List, [], ◌∷◌, ◌++◌, Option}
use Rattle.paths.specs.Prefixes.{Names}
use Rattle.backing.specs.Calls.{AskStat}
use Rattle.backing.specs.declared.call.Answer.{Answer}
use Rattle.ops.specs.declared.findings.FoundFile.{FoundFile}
use Rattle.ops.specs.Judged.{judged}
use Rattle.ops.specs.Scripts.{Plan, found_in, give_found, look_at_each}

-- the paths that are left, and what was found at those before them
pub record Looking : Type 0 where
  pub left : List Names
  pub found : List (Option FoundFile)

-- the same after the answer to the next Stat
abbrev pub looked_on : List Names → List (Option FoundFile) → Answer → Looking
looked_on [] found answer = record { left = []; found = found }
looked_on (p ∷ ps) found answer = record { left = ps; found = found ++ found_in (judged (AskStat p) answer) ∷ [] }

abbrev pub plan_looking : Looking → Plan
plan_looking l = look_at_each l.left (λ founds. give_found (l.found ++ founds))
