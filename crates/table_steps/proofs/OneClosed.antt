-- The result of closing a file.
use Rattle.std.proofs.Common.{ℕ, ◌≡◌, true, [], Option, Some, sym, ap, ◌∙◌, subst, arith}
use Rattle.table_files.specs.OpenEntry.{Filing, files_of}
use Rattle.table_files.specs.Handles.{Files}
use Rattle.table_requests.specs.Listed.{requests_of}
use Rattle.tree.specs.Places.{Nodes, at_in}
use Rattle.table_steps.specs.declared.state.State.{State}
use Rattle.table_steps.specs.Beginning.{ClosesFile}
use Rattle.table_steps.specs.Keeping.{kept_by}
use Rattle.table_steps.specs.Kept.{IsKept, flights_in, world_of}
use Rattle.table_steps.specs.Steps.{Leaves}
use Rattle.table_steps.specs.Swept.{IsSwept}
use Rattle.table_steps.specs.Sweeping.{IsClosed, IsPruned, IsSameRest}
use Rattle.table_steps.specs.Upheld.{IsBooked}
use Rattle.table_steps.specs.World.{AreReady, World}
use Rattle.table_steps.proofs.Booked.{IsBooked-pins}
use Rattle.table_steps.proofs.Filing.{kept_fewer, nodes_fewer, nodes_swept}
use Rattle.table_steps.proofs.Kept.{held_ready, ready_swept}
use Rattle.table_steps.proofs.Lawful.{booked_of, lawful_swept}
use Rattle.table_steps.proofs.Viewed.{are_kept}

module _ (s : State) (kept : IsKept s) (handle : Option ℕ) (tree : Nodes) (files : Filing) (closed : IsClosed (files_of s.files) handle (files_of files))
    (swept : IsSwept (kept_by s.flights files) (at_in s.tree) (at_in tree)) (rest : IsSameRest s.tree tree) (pruned : IsPruned (at_in tree) (kept_by s.flights files) []) where
  now_kept : (n : ℕ) → kept_by s.flights files n ≡ true → kept_by s.flights s.files n ≡ true
  now_kept = kept_fewer s.flights s.files files closed.opened

  booked : IsBooked (at_in s.tree) s.ledger.made (kept_by s.flights files)
  booked = IsBooked-pins (at_in s.tree) s.ledger.made (kept_by s.flights s.files) (kept_by s.flights files) (λ n h. kept.law.booked.alive n (now_kept n h))
      (booked_of (at_in s.tree) s.ledger.made (kept_by s.flights s.files) kept.law)

  still_ready : AreReady (at_in tree) (flights_in (requests_of s.flights))
  still_ready = ready_swept (at_in s.tree) (at_in tree) s.flights files kept.flying closed.filed pruned.tree swept kept.ready

  pub close_kept : IsKept (record s { tree = tree; files = files })
  close_kept = record {
    law = lawful_swept (at_in s.tree) (at_in tree) s.ledger.made (kept_by s.flights files) booked swept pruned;
    flying = kept.flying;
    held = held_ready (at_in s.tree) (at_in tree) (flights_in (requests_of s.flights)) still_ready kept.held;
    ready = still_ready;
    provided = kept.provided;
    few = kept.few;
    reserved = record {
      nodes = omega (arith, kept.reserved.nodes, rest.room);
      births = kept.reserved.births;
      postings = λ b. omega (arith, kept.reserved.postings b, rest.counts);
      whole = kept.reserved.whole;
      files = omega (arith, kept.reserved.files, closed.room);
    };
    limited = record {
      nodes = omega (arith, kept.limited.nodes, rest.fewer);
      postings = λ b. omega (arith, kept.limited.postings b, rest.counts);
      begun_within = kept.limited.begun_within;
      entries = kept.limited.entries;
      counted = omega (arith, kept.limited.counted, rest.counts);
      births = kept.limited.births;
      begun = omega (arith, kept.limited.begun, rest.fewer);
      flights = kept.limited.flights;
      files = omega (arith, kept.limited.files, closed.fewer);
      handles = omega (arith, kept.limited.handles, closed.last);
      node_limit = rest.limit ∙ kept.limited.node_limit;
      posting_limit = kept.limited.posting_limit;
      short = kept.limited.short;
    };
    counts = kept.counts ∙ sym rest.counts;
    filed = closed.filed;
    files = nodes_swept s.flights files closed.filed (at_in s.tree) (at_in tree) swept (nodes_fewer (at_in s.tree) handle (files_of s.files).at (files_of files).at closed.at kept.files);
  }

  pub closes_file : (h : ℕ) → handle ≡ Some h → ClosesFile (world_of s) handle (world_of (record s { tree = tree; files = files }))
  closes_file h some = record {
    leaves = subst (λ (o : Option ℕ). Leaves (at_in s.tree) o (world_of (record s { tree = tree; files = files }))) (sym some)
        (record { kept = kept_by s.flights files; keeps = are_kept s.flights files kept.flying closed.filed; swept = swept; reasons = close_kept.law.reasons });
    new_is = ap (λ (n : ℕ). let w : World = record (world_of s) { at = at_in tree; files = (files_of files).at; last_handle = n } in w) closed.last
        ∙ ap (λ (fs : Files). let w : World = record (world_of s) { at = at_in tree; files = fs } in w) closed.at;
  }
