-- What the tests of a new request decide.
use Rattle.std.proofs.Common.{ℤ, ◌+◌, ◌*◌, ◌^◌, ◌<◌, ◌≤◌, ◌≡◌, length, sym, subst, inl, inr, arith}
use Rattle.ledger.specs.Sums.{totals_over}
use Rattle.table_files.specs.OpenEntry.{files_of}
use Rattle.table_requests.specs.declared.data.Promise.{Promise}
use Rattle.table_requests.specs.declared.data.Want.{Want}
use Rattle.table_requests.specs.RequestMaps as flying
use Rattle.table_requests.specs.Listed.{requests_of}
use Rattle.tree.specs.Places.{at_in}
use Rattle.table_footprints.specs.declared.data.NewRequest.{NewRequest}
use Rattle.table_footprints.specs.Asked.{promise_of}
use Rattle.table_footprints.specs.NewRequests.{IsNewRequest, footprint_in}
use Rattle.terms.specs.declared.limits.Counts.TheVariants.{Bounded, Free}
use Rattle.table_steps.specs.declared.state.State.{State}
use Rattle.table_steps.specs.Beginning.{Allows, Forbids, IsTooMuch}
use Rattle.table_steps.specs.Kept.{flights_in, tally_of, world_of}
use Rattle.table_steps.specs.Steps.{IsAdmissible, IsBadHandle, IsCrowded, IsFull, IsHeldUp, IsRefusal, MayBegin, crowded, full}
use Rattle.table_steps.specs.World.{HasRoom, IsTally, Tally, seen_in}
use Rattle.table_steps.proofs.Adding.{tally_once}
use Rattle.table_steps.proofs.Apart.{held_up_recorded, held_up_same, held_up_seen}

-- ---- the limits, by the running totals

module _ (s : State) (p : Promise) where
  room_of : Allows s p → HasRoom (world_of s) (tally_of s) p
  room_of allows = record { nodes = allows.nodes; postings = allows.postings.bounded; begun = allows.postings.begun; entries = allows.entries; files = allows.handles.files; handles = allows.handles.handles }

  no_room : IsTooMuch s p → HasRoom (world_of s) (tally_of s) p → ⊥
  no_room (inl much) room = omega (arith, room.nodes)
  no_room (inr (inl none)) room = none (record { bounded = room.postings; begun = room.begun })
  no_room (inr (inr (inl much))) room = omega (arith, much, room.entries)
  no_room (inr (inr (inr none))) room = none (record { files = room.files; handles = room.handles })

  room_from : (IsTooMuch s p → ⊥) → HasRoom (world_of s) (tally_of s) p
  room_from fits =
      let nodes : s.limits.nodes < s.tree.living + (requests_of s.flights).nodes + p.nodes → ⊥ = λ h. fits (inl h) in
      let postings : (s.limits.counts ≡ Bounded) → s.limits.postings < length s.ledger.made.last + s.tree.counts + (requests_of s.flights).postings + p.postings → ⊥ = λ b over. fits (inr (inl (λ h. let enough = h.bounded b in omega arith))) in
      let begun : (s.limits.counts ≡ Free) → s.limits.postings < s.limits.nodes + (requests_of s.flights).postings + p.postings → ⊥ = λ f over. fits (inr (inl (λ h. let enough = h.begun f in omega arith))) in
      let entries : 3 * 2 ^ 64 ≤ 3 * (totals_over s.ledger.made).entries + (requests_of s.flights).postings + p.postings → ⊥ = λ h. fits (inr (inr (inl h))) in
      let files : s.limits.files < (files_of s.files).many + (requests_of s.flights).files + p.files → ⊥ = λ less. fits (inr (inr (inr (λ h. let enough = h.files in omega arith)))) in
      let handles : 2 ^ 64 ≤ (files_of s.files).last + (requests_of s.flights).files + p.files → ⊥ = λ over. fits (inr (inr (inr (λ h. let enough = h.handles in omega arith)))) in
      record { nodes = omega (arith, nodes); postings = λ b. omega (arith, postings b); begun = λ f. omega (arith, begun f); entries = omega (arith, entries); files = omega (arith, files); handles = omega (arith, handles) }

-- ---- the tests of a new request

module _ (s : State) (want : Want) (new_request : NewRequest) (is : IsNewRequest (seen_in (world_of s)) want new_request) where
  pub held_up : flying.HoldsUp (requests_of s.flights).at new_request.work.held → IsHeldUp (world_of s) (footprint_in new_request.work)
  held_up up = record { held = new_request.work.held; holds = is.holds; up = held_up_seen (requests_of s.flights) new_request.work.held up }

  pub not_held_up : (flying.HoldsUp (requests_of s.flights).at new_request.work.held → ⊥) → IsHeldUp (world_of s) (footprint_in new_request.work) → ⊥
  not_held_up free up = free (held_up_recorded (requests_of s.flights) new_request.work.held (held_up_same (at_in s.tree) (footprint_in new_request.work) up.held new_request.work.held up.holds is.holds (flights_in (requests_of s.flights)) up.up))

module _ (s : State) (want : Want) (new_request : NewRequest) (is : IsNewRequest (seen_in (world_of s)) want new_request) (usable : IsBadHandle (world_of s) (footprint_in new_request.work) → ⊥) (tally : IsTally (world_of s) (tally_of s)) where
  pub admissible : IsAdmissible (world_of s) (footprint_in new_request.work)
  admissible = record { usable = usable; sound = is.sound }

  -- the sums over the world are the running totals
  on_totals : (t : Tally) → IsTally (world_of s) t → t ≡ tally_of s
  on_totals t it = tally_once (world_of s) t (tally_of s) it tally

  not_full : HasRoom (world_of s) (tally_of s) new_request.work.promise → IsFull (world_of s) (footprint_in new_request.work) → ⊥
  not_full room it =
      it.none (subst (λ (t : Tally). HasRoom (world_of s) t (promise_of (footprint_in new_request.work))) (sym (on_totals it.tally it.tallied))
      (subst (λ (p : Promise). HasRoom (world_of s) (tally_of s) p) is.provided.promise room))

  full_of : IsTooMuch s new_request.work.promise → IsFull (world_of s) (footprint_in new_request.work)
  full_of much = record {
    tally = tally_of s;
    tallied = tally;
    none = λ room. no_room s new_request.work.promise much (subst (λ (p : Promise). HasRoom (world_of s) (tally_of s) p) (sym is.provided.promise) room);
  }

  not_crowded : Allows s new_request.work.promise → IsCrowded (world_of s) → ⊥
  not_crowded allows it =
      let over : s.limits.flights < (requests_of s.flights).many + 1 = subst (λ (t : Tally). s.limits.flights < t.flights + 1) (on_totals it.tally it.tallied) it.over in
      omega (arith, allows.flights)

  pub limit_refusal : (e : ℤ) → (flying.HoldsUp (requests_of s.flights).at new_request.work.held → ⊥) → Forbids s new_request.work.promise e → IsRefusal (world_of s) (footprint_in new_request.work) e
  limit_refusal e free (inl (errno, much)) = full errno admissible (not_held_up s want new_request is free) (full_of much)
  limit_refusal e free (inr (errno, fits, over)) =
      crowded errno admissible (not_held_up s want new_request is free) (not_full (room_from s new_request.work.promise fits)) (record { tally = tally_of s; tallied = tally; over = over })

  pub may_begin : (flying.HoldsUp (requests_of s.flights).at new_request.work.held → ⊥) → Allows s new_request.work.promise → MayBegin (world_of s) (footprint_in new_request.work)
  may_begin free allows = record {
    usable = usable;
    sound = is.sound;
    clear = not_held_up s want new_request is free;
    room = not_full (room_of s new_request.work.promise allows);
    uncrowded = not_crowded allows;
  }
