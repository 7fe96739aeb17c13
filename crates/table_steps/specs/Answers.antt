-- Tickets and answers as contracts see them.
use Rattle.std.specs.Prelude.{ℕ, Bool, List, Option, count_by, is_some}
use Rattle.table_requests.specs.declared.data.Given.{Given}
use Rattle.paths.specs.Prefixes.{Names}

-- a request that was begun: its id; its paths when it began; whether a name is moved to itself; whether an open file
-- may have to be hidden, under one of the last ten paths; and whether its end removes a hidden file whose last handle
-- it closed
pub record Claim : Type 0 where
  pub id : ℕ
  pub paths : List Names
  pub same : Bool
  pub hide : Bool
  pub last : Bool

-- what a finished request gives: a node or none for each of its names, and the file that it opened
pub record Answer : Type 0 where
  pub id : ℕ
  pub given : List (Option Given)
  pub lost : Bool
  -- the handle of the file that was opened
  pub opened : Option ℕ

-- what a settle did
pub record Settlement : Type 0 where
  pub id : ℕ
  pub entries : ℕ
  pub taken : Bool

-- how many nodes were given
abbrev pub entries_in : List (Option Given) → ℕ
entries_in gs = count_by (λ g. is_some g) gs
