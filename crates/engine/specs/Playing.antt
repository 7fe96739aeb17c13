-- Making the calls of a script.
use Rattle.std.specs.Prelude.{List, ◌++◌}
use Rattle.backing.specs.Calls.{Asked}
use Rattle.backing.specs.declared.call.Answer.{Answer}
use Rattle.ops.specs.Scripts.{Plan, End, Made, Follows}
use Rattle.engine.specs.Serving.{Makes}

-- what a script did from its beginning to its end
pub record Played {C : Type 0} (gives : C → Asked → Answer → C → Type 0) (calls : C) (first : Plan) (calls' : C) (end : End) : Type 0 where
  pub made : List Made
  pub makes : Makes gives calls made calls'
  pub follows : Follows first made end

-- and what it has done so far
pub record Playing {C : Type 0} (gives : C → Asked → Answer → C → Type 0) (calls : C) (first : Plan) (calls' : C) (now : Plan) : Type 0 where
  pub made : List Made
  pub makes : Makes gives calls made calls'
  pub onwards : (rest : List Made) (end : End) → Follows now rest end → Follows first (made ++ rest) end
