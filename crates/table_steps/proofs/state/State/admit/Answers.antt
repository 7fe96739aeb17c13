use Rattle.std.proofs.Common.{ℕ, ◌+◌, ◌%◌, ◌^◌, if◌then◌else◌, refl, sym, ap, ◌∙◌, subst}
use Rattle.std.proofs.lemmas.Bool.{false≢true}
use Rattle.table_footprints.specs.declared.data.NewRequest.{NewRequest}
use Rattle.table_footprints.specs.Asked.{no_memory}
use Rattle.table_footprints.specs.Cases.{IsFootprint, Seen}
use Rattle.table_footprints.specs.NewRequests.{IsNewRequest, footprint_in}
use Rattle.table_requests.specs.Listed.{InFlight}
use Rattle.table_steps.specs.Kept.{IsKept, world_of}
use Rattle.table_steps.specs.World.{seen_in}
use Rattle.table_steps.specs.Steps.{unsound}
use Rattle.table_steps.proofs.Refusing.{refusal_bits}
use Rattle.table_steps.proofs.Testing.{held_up, limit_refusal, may_begin}
use Rattle.table_steps.proofs.Starting.{begun_kept, goes_on, hides_so}
use Rattle.table_steps.proofs.state.State.admit.Goals as goal

footprint_is : (seen : Seen) (new_request : NewRequest) → IsNewRequest seen new_request.work.want new_request → IsFootprint seen new_request.work.want (footprint_in new_request.work)
footprint_is seen new_request is = record { case = new_request.work.case; fits = is.fits; footprint = refl }

pub returns-then-holds_up-clause-begins : goal.returns-then-holds_up-clause-begins
returns-then-holds_up-clause-begins c =
    let s = c.args.self.now in
    let new_request = c.args.new_request in
    record {
      footprint = footprint_in new_request.work;
      footprint_is = footprint_is (seen_in (world_of s)) new_request c.requires.new_request;
      begins = (record { usable = c.requires.handle new_request.work.case; sound = c.requires.new_request.sound }, held_up s new_request.work.want new_request c.requires.new_request (c.holds_up.ensures.held.0 c.if-holds_up.true), refl);
    }

pub returns-in-Err-clause-begins : goal.returns-in-Err-clause-begins
returns-in-Err-clause-begins c =
    let s = c.args.self.now in
    let new_request = c.args.new_request in
    record {
      footprint = footprint_in new_request.work;
      footprint_is = footprint_is (seen_in (world_of s)) new_request c.requires.new_request;
      begins = (
        refusal_bits (world_of s) (footprint_in new_request.work) c.in-Err.errno
            (limit_refusal s new_request.work.want new_request c.requires.new_request (c.requires.handle new_request.work.case) c.expect_within.ensures.tally c.in-Err.errno (λ up. false≢true (sym c.if-holds_up.false ∙ c.holds_up.ensures.held.1 up)) c.in-Err.ensures.err),
        refl,
      );
    }

pub returns-clause-begins : goal.returns-clause-begins
returns-clause-begins c =
    let s = c.args.self.now in
    let new_request = c.args.new_request in
    record {
      footprint = footprint_in new_request.work;
      footprint_is = footprint_is (seen_in (world_of s)) new_request c.requires.new_request;
      begins = (
        may_begin s new_request.work.want new_request c.requires.new_request (c.requires.handle new_request.work.case) c.expect_within.ensures.tally (λ up. false≢true (sym c.if-holds_up.false ∙ c.holds_up.ensures.held.1 up)) c.in-Ok.ensures.ok,
        goes_on s c.reserve.new.self c.args.unique c.free_id-id.result new_request c.requires.new_request c.reserve.ensures.same c.add.new.self c.in-Ok-add.ensures.adds c.is_same-same.result c.may_hide-hide.result c.is_last-last.result c.next_counter-self.result c.free_id-id.ensures.free c.is_same-same.ensures
            (c.may_hide-hide.ensures ∙ hides_so (seen_in (world_of s)) new_request.work.want new_request.work.case c.requires.new_request.fits new_request.work.candidates c.requires.new_request.provided.candidates)
            c.is_last-last.ensures
            (c.next_counter-self.ensures ∙ ap (λ (k : ℕ). if c.may_hide-hide.result then (k + 10) % 2 ^ 32 else k) c.reserve.ensures.same.counter)
            c.closed_by-closes.result c.closed_by-closes.ensures (world_of c.close_file.new.self) c.close_file.ensures.closes,
      );
    }

pub close_file-requires : goal.close_file-requires
close_file-requires c =
    let s = c.args.self.now in
    let new_request = c.args.new_request in
    record {
      kept = begun_kept s c.reserve.new.self c.args.unique c.free_id-id.result new_request c.requires.new_request c.reserve.ensures.same c.add.new.self c.in-Ok-add.ensures.adds c.next_counter-self.result c.free_id-id.ensures.free
          c.reserve.ensures.kept c.add.ensures.law (λ up. false≢true (sym c.if-holds_up.false ∙ c.holds_up.ensures.held.1 up))
          (may_begin s new_request.work.want new_request c.requires.new_request (c.requires.handle new_request.work.case) c.expect_within.ensures.tally (λ up. false≢true (sym c.if-holds_up.false ∙ c.holds_up.ensures.held.1 up)) c.in-Ok.ensures.ok)
          c.in-Ok.ensures.ok c.in-Ok-reserve.ensures.ok;
    }

pub returns-in-Err-reserve-clause-begins : goal.returns-in-Err-reserve-clause-begins
returns-in-Err-reserve-clause-begins c =
    let s = c.args.self.now in
    let new_request = c.args.new_request in
    record {
      footprint = footprint_in new_request.work;
      footprint_is = footprint_is (seen_in (world_of s)) new_request c.requires.new_request;
      begins = (unsound (c.requires.handle new_request.work.case) (no_memory refl c.requires.new_request.sound.not_stale), c.reserve.ensures.same.world);
    }

pub returns-in-Err-add-clause-begins : goal.returns-in-Err-add-clause-begins
returns-in-Err-add-clause-begins c =
    let s = c.args.self.now in
    let new_request = c.args.new_request in
    record {
      footprint = footprint_in new_request.work;
      footprint_is = footprint_is (seen_in (world_of s)) new_request c.requires.new_request;
      begins = (
        unsound (c.requires.handle new_request.work.case) (no_memory refl c.requires.new_request.sound.not_stale),
        ap (λ (flights : InFlight). world_of (record c.reserve.new.self { flights = flights })) c.in-Err-add.ensures.same ∙ c.reserve.ensures.same.world,
      );
    }

pub returns-in-Err-add-clause-kept : goal.returns-in-Err-add-clause-kept
returns-in-Err-add-clause-kept c = subst (λ (flights : InFlight). IsKept (record c.reserve.new.self { flights = flights })) (sym c.in-Err-add.ensures.same) c.reserve.ensures.kept
