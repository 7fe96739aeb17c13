-- The invariants of the parts make a lawful world.
use Rattle.std.proofs.Common.{arith}
use Rattle.table_requests.specs.RequestMaps.{IsTallied}
use Rattle.table_requests.specs.Listed.{requests_of}
use Rattle.tree.specs.Places.{IsCensus, at_in}
use Rattle.table_steps.specs.Keeping.{kept_by}
use Rattle.table_steps.specs.declared.state.State.{State}
use Rattle.table_steps.specs.Kept.{IsKept, tally_of, world_of}
use Rattle.table_steps.specs.World.{AreUndisturbed, IsLawfulWorld}
use Rattle.table_steps.proofs.Tallying.{tallied}
use Rattle.table_steps.proofs.Viewed.{are_kept}

pub kept_lawful : (s : State) → IsCensus (at_in s.tree) s.tree.living s.tree.counts → IsTallied (requests_of s.flights) → IsKept s → AreUndisturbed (world_of s).at (world_of s).files (world_of s).flights → IsLawfulWorld (world_of s)
kept_lawful s census totals kept undisturbed = record {
  kept = kept_by s.flights s.files;
  keeps = are_kept s.flights s.files kept.flying kept.filed;
  law = kept.law;
  held = kept.held;
  ready = kept.ready;
  undisturbed = undisturbed;
  within = record {
    tally = tally_of s;
    tallied = tallied s census totals kept.provided kept.filed;
    room = record { nodes = omega (arith, kept.limited.nodes); postings = λ b. omega (arith, kept.limited.postings b); begun = λ f. omega (arith, kept.limited.begun_within f); entries = omega (arith, kept.limited.entries); files = omega (arith, kept.limited.files); handles = omega (arith, kept.limited.handles) };
    flights = kept.limited.flights;
  };
  files = record { nodes = kept.files; given = kept.filed.given };
}
