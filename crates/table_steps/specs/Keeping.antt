-- Which numbers the parts keep alive: those that a request pins, and those with an open file.
use Rattle.std.specs.Prelude.{ℕ, ◌||◌, Bool}
use Rattle.table_files.specs.OpenEntry.{Filing, files_of}
use Rattle.table_requests.specs.Listed.{InFlight, requests_of}

unfoldable pub kept_by : InFlight → Filing → ℕ → Bool
kept_by flights files n = (requests_of flights).pinned n || (files_of files).opened n
