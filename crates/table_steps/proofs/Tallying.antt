-- The running totals are the sums over the world.
use Rattle.std.proofs.Common.{ℕ, ◌≡◌, Option, Some, None, refl, sym, ap, ◌∙◌}
use Rattle.std.specs.Prelude.{is_some, option_map, sum_by, unwrap_or}
use mathlib.Core.Path.{fun_ext}
use Rattle.table_files.specs.OpenEntry.{files_of}
use Rattle.table_files.specs.Handles.{AreOpenEntries}
use Rattle.table_requests.specs.declared.data.RequestInFlight.{RequestInFlight as Recorded}
use Rattle.table_requests.specs.declared.data.Stage.{Stage as Recording}
use Rattle.table_requests.specs.declared.data.Stage.TheVariants as recorded
use Rattle.table_requests.specs.declared.data.Promise.{Promise}
use Rattle.table_requests.specs.RequestMaps.{RequestMaps, IsTallied, files_promised, nodes_promised, postings_promised}
use Rattle.table_requests.specs.Listed.{requests_of}
use Rattle.collections.specs.Sum.{IsSum}
use Rattle.tree.specs.Places.{IsCensus, at_in}
use Rattle.table_steps.specs.declared.state.State.{State}
use Rattle.table_steps.specs.Kept.{AreProvided, flight_of, stage_of, tally_of, world_of}
use Rattle.table_steps.specs.World.{IsTally, promised_to}

module _ {X Y : Type 0} where
  found_mapped : (f : X → Y) (o : Option X) → is_some (option_map f o) ≡ is_some o
  found_mapped f None = refl
  found_mapped f (Some x) = refl

  same_weight : (f : X → Y) (u : X → ℕ) (v : Y → ℕ) (o : Option X) → ((x : X) → o ≡ Some x → u x ≡ v (f x)) → unwrap_or (option_map u o) 0 ≡ unwrap_or (option_map v (option_map f o)) 0
  same_weight f u v None same = refl
  same_weight f u v (Some x) same = same x refl

  -- what is found is viewed as something else of the same weight
  pub sum_seen : (at : ℕ → Option X) (f : X → Y) (u : X → ℕ) (v : Y → ℕ) (total : ℕ) → ((k : ℕ) (x : X) → at k ≡ Some x → u x ≡ v (f x)) → IsSum at u total → IsSum (λ k. option_map f (at k)) v total
  sum_seen at f u v total same sum = record {
    keys = sum.keys;
    apart = sum.apart;
    exact = λ k. (λ h. found_mapped f (at k) ∙ (sum.exact k).0 h, λ h. (sum.exact k).1 (sym (found_mapped f (at k)) ∙ h));
    total_is = sum.total_is ∙ ap (λ (g : ℕ → ℕ). sum_by g sum.keys) (fun_ext (λ k. same_weight f u v (at k) (same k)));
  }

module _ (all : RequestMaps) (provided : AreProvided all) where
  same_nodes : (id : ℕ) (f : Recorded) → all.at id ≡ Some f → (st : Recording) → f.stage ≡ st → nodes_promised st ≡ (promised_to (stage_of st)).nodes
  same_nodes id f here (recorded.Working work) is = ap (λ (p : Promise). p.nodes) (provided id f work here is).promise
  same_nodes id f here (recorded.Answered before opened) is = refl

  same_postings : (id : ℕ) (f : Recorded) → all.at id ≡ Some f → (st : Recording) → f.stage ≡ st → postings_promised st ≡ (promised_to (stage_of st)).postings
  same_postings id f here (recorded.Working work) is = ap (λ (p : Promise). p.postings) (provided id f work here is).promise
  same_postings id f here (recorded.Answered before opened) is = refl

  same_files : (id : ℕ) (f : Recorded) → all.at id ≡ Some f → (st : Recording) → f.stage ≡ st → files_promised st ≡ (promised_to (stage_of st)).files
  same_files id f here (recorded.Working work) is = ap (λ (p : Promise). p.files) (provided id f work here is).promise
  same_files id f here (recorded.Answered before opened) is = refl

pub tallied : (s : State) → IsCensus (at_in s.tree) s.tree.living s.tree.counts → IsTallied (requests_of s.flights) → AreProvided (requests_of s.flights) → AreOpenEntries (files_of s.files) → IsTally (world_of s) (tally_of s)
tallied s census totals provided filed =
    let all = requests_of s.flights in
    record {
      living = census.living_is;
      counts = census.counts_is;
      flights = sum_seen all.at flight_of (λ f. 1) (λ f. 1) all.many (λ k x here. refl) totals.many;
      nodes = sum_seen all.at flight_of (λ f. nodes_promised f.stage) (λ f. (promised_to f.stage).nodes) all.nodes (λ k x here. same_nodes all provided k x here x.stage refl) totals.nodes;
      postings = sum_seen all.at flight_of (λ f. postings_promised f.stage) (λ f. (promised_to f.stage).postings) all.postings (λ k x here. same_postings all provided k x here x.stage refl) totals.postings;
      opening = sum_seen all.at flight_of (λ f. files_promised f.stage) (λ f. (promised_to f.stage).files) all.files (λ k x here. same_files all provided k x here x.stage refl) totals.files;
      files = filed.many;
    }
