-- Making more room changes nothing else.
use Rattle.std.proofs.Common.{ℕ, ◌≤◌, ◌≡◌, Bool, List, length, sym, ap, ◌∙◌, subst, arith}
use Rattle.table_files.specs.OpenEntry.{Filing, files_of}
use Rattle.table_files.specs.Handles.{Files, AreOpenEntries, Opened}
use Rattle.table_requests.specs.RequestMaps.{RequestMaps, AreLawfulRequests}
use Rattle.table_requests.specs.Listed.{InFlight, requests_of}
use Rattle.table_steps.specs.Upheld.{IsUpheld}
use Rattle.ledger.specs.Periods.{Periods}
use Rattle.ledger.specs.Postings.{Postings}
use Rattle.ledger.specs.Sums.{totals_over}
use Rattle.tree.specs.Places.{Nodes, at_in}
use Rattle.table_steps.specs.declared.state.State.{State}
use Rattle.table_steps.specs.Kept.{AreFew, AreProvided, IsKept, flights_in}
use Rattle.table_steps.specs.Keeping.{kept_by}
use Rattle.table_steps.specs.World.{AreHeld, AreReady, HaveNodes}
use Rattle.table_steps.proofs.Filing.{kept_same}

module _ (s : State) (kept : IsKept s) (tree : Nodes) (ledger : Postings) (flights : InFlight)
    (tree_is : tree ≡ record s.tree { room = tree.room }) (tree_room : s.tree.room ≤ tree.room)
    (made : ledger.made ≡ s.ledger.made) (limit : ledger.limit ≡ s.ledger.limit) (ledger_room : s.ledger.room ≤ ledger.room) (places : s.ledger.places ≤ ledger.places)
    (all_is : requests_of flights ≡ record (requests_of s.flights) { room = (requests_of flights).room }) (flying : AreLawfulRequests (requests_of flights))
    (files : Filing) (files_is : files_of files ≡ record (files_of s.files) { room = (files_of files).room }) (files_room : (files_of s.files).room ≤ (files_of files).room) (filed : AreOpenEntries (files_of files)) where
  at_same : at_in s.tree ≡ at_in tree
  at_same = sym (ap at_in tree_is)

  all_same : {X : Type 0} → (of : RequestMaps → X) → of (requests_of flights) ≡ of (record (requests_of s.flights) { room = (requests_of flights).room })
  all_same of = ap of all_is

  file_same : {X : Type 0} → (of : Opened → X) → of (files_of files) ≡ of (record (files_of s.files) { room = (files_of files).room })
  file_same of = ap of files_is

  pub room_kept : IsKept (record s { tree = tree; ledger = ledger; flights = flights; files = files })
  room_kept = record {
    law = subst (λ (ps : Periods). IsUpheld (at_in tree) ps (kept_by flights files)) (sym made)
        (subst (λ at. IsUpheld at s.ledger.made (kept_by flights files)) at_same
        (subst (λ (keeps : ℕ → Bool). IsUpheld (at_in s.tree) s.ledger.made keeps) (sym (kept_same s.flights flights s.files files (all_same (λ all. all.pinned)) (file_same (λ all. all.opened)))) kept.law));
    flying = flying;
    held = subst (λ at. AreHeld at (flights_in (requests_of flights))) at_same (subst (λ fs. AreHeld (at_in s.tree) fs) (sym (all_same flights_in)) kept.held);
    ready = subst (λ at. AreReady at (flights_in (requests_of flights))) at_same (subst (λ fs. AreReady (at_in s.tree) fs) (sym (all_same flights_in)) kept.ready);
    provided = subst AreProvided (sym all_is) kept.provided;
    few = subst (λ (all : RequestMaps). AreFew s.limits all) (sym all_is) kept.few;
    reserved = record {
      nodes = omega (arith, kept.reserved.nodes, all_same (λ all. all.nodes));
      births = omega (arith, kept.reserved.births, all_same (λ all. all.nodes), places);
      postings = λ b. omega (arith, kept.reserved.postings b, all_same (λ all. all.postings), ap (λ (t : Nodes). t.counts) tree_is);
      whole = λ f. omega (arith, kept.reserved.whole f, ledger_room, ap {B = ℕ} (λ (ps : Periods). length ps.last) made);
      files = omega (arith, kept.reserved.files, all_same (λ all. all.files), files_room);
    };
    limited = record {
      nodes = omega (arith, kept.limited.nodes, all_same (λ all. all.nodes), ap (λ (t : Nodes). t.living) tree_is);
      postings = λ b. omega (arith, kept.limited.postings b, all_same (λ all. all.postings), ap (λ (t : Nodes). t.counts) tree_is, ap {B = ℕ} (λ (ps : Periods). length ps.last) made);
      begun_within = λ f. omega (arith, kept.limited.begun_within f, all_same (λ all. all.postings));
      entries = omega (arith, kept.limited.entries, all_same (λ all. all.postings), ap {B = ℕ} (λ (ps : Periods). (totals_over ps).entries) made);
      counted = omega (arith, kept.limited.counted, ap (λ (t : Nodes). t.counts) tree_is, ap {B = ℕ} (λ (ps : Periods). (totals_over ps).entries) made);
      births = subst (λ (ps : Periods). (totals_over ps).born ≤ (totals_over ps).entries) (sym made) kept.limited.births;
      begun = omega (arith, kept.limited.begun, ap (λ (t : Nodes). t.living) tree_is, ap {B = ℕ} (λ (ps : Periods). length ps.last) made);
      flights = omega (arith, kept.limited.flights, all_same (λ all. all.many));
      files = omega (arith, kept.limited.files, all_same (λ all. all.files), file_same (λ all. all.many));
      handles = omega (arith, kept.limited.handles, all_same (λ all. all.files), file_same (λ all. all.last));
      node_limit = ap (λ (t : Nodes). t.limit) tree_is ∙ kept.limited.node_limit;
      posting_limit = limit ∙ kept.limited.posting_limit;
      short = kept.limited.short;
    };
    counts = kept.counts ∙ sym (ap (λ (t : Nodes). t.counts) tree_is);
    filed = filed;
    files = subst (λ at. HaveNodes at (files_of files).at) at_same (subst (λ (fs : Files). HaveNodes (at_in s.tree) fs) (sym (file_same (λ all. all.at))) kept.files);
  }
