-- How far a table may grow, by the bounds that a session is given.
use Rattle.std.specs.Prelude.{max, ℕ, ◌*◌}
use Rattle.terms.specs.declared.terms.Bounds.{Bounds}
use Rattle.terms.specs.declared.limits.Limits.{Limits}
use Rattle.terms.specs.declared.limits.Counts.{Counts}
use Rattle.terms.specs.declared.limits.Counts.TheVariants.{Bounded, Free}

-- if counts are free, a period may have at least two postings per node
abbrev pub postings_of : Counts → (nodes postings : ℕ) → ℕ
postings_of Bounded nodes postings = postings
postings_of Free nodes postings = max postings (2 * nodes)

-- how far a table may grow; the root always has room
abbrev pub limits_of : Bounds → Limits
limits_of bounds = record {
  nodes = max bounds.nodes 1;
  postings = postings_of bounds.counts (max bounds.nodes 1) bounds.postings;
  counts = bounds.counts;
  flights = bounds.requests;
  files = bounds.files;
}
