-- What is counted of the open folders: how many there are, and their names.
use Rattle.std.specs.Prelude.{ℕ, zero, suc, ◌≡◌, ◌≤◌, List, [], ◌∷◌}
use Rattle.std.specs.List.{sum_by}
use Rattle.handles.specs.declared.counted.Counted.{Counted}
use Rattle.handles.specs.declared.limits.FolderLimits.{FolderLimits}

abbrev pub nothing : Counted
nothing = record { folders = 0; names = 0 }

-- what a token has of the count in a word
abbrev pub amount : ℕ → Counted → ℕ
amount zero had = had.folders
amount (suc word) had = had.names

-- the same with another amount there
abbrev pub with_amount : ℕ → Counted → ℕ → Counted
with_amount zero had n = record { folders = n; names = had.names }
with_amount (suc word) had n = record { folders = had.folders; names = n }

-- the limit of the count in a word
abbrev pub limit : ℕ → FolderLimits → ℕ
limit zero limits = limits.folders
limit (suc word) limits = limits.names

-- each count is what all tokens have of it, and within its limit
pub record IsCounted (limits : FolderLimits) (words : List ℕ) (tokens : List Counted) : Type 0 where
  pub are_sums : words ≡ sum_by (amount 0) tokens ∷ sum_by (amount 1) tokens ∷ []
  pub folders : sum_by (amount 0) tokens ≤ limits.folders
  pub names : sum_by (amount 1) tokens ≤ limits.names
