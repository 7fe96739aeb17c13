-- Lists with room for more, which needs no allocation.
use Rattle.std.specs.Prelude.{ℕ, List, Option}
use Rattle.table_requests.specs.declared.data.Given.{Given}

-- the nodes given for each name
pub record Listed : Type 0 where
  pub items : List (Option Given)
  pub room : ℕ

-- numbers that are pinned
pub record Pinned : Type 0 where
  pub numbers : List ℕ
  pub room : ℕ
