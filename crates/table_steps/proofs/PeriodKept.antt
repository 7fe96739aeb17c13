-- The invariants of a table at the end of a period.
use Rattle.std.proofs.Common.{ℕ, ◌+◌, ◌≤◌, ◌≡◌, List, length, refl, ap, ◌∙◌, arith, map, ◌≢◌, AllPairs, sym, subst}
use Rattle.std.proofs.lemmas.List.{length-map}
use Rattle.ledger.specs.declared.postings.Posting.{Posting}
use Rattle.ledger.specs.Closing.{AreAllAlive, Closes, opening_of}
use Rattle.ledger.specs.Periods.{Periods}
use Rattle.ledger.specs.Postings.{Postings}
use Rattle.ledger.specs.Sums.{totals_over, IsCarriedOver, carried_by, births_closed, births_of}
use Rattle.ledger.specs.declared.shares.Totals.{Totals}
use Rattle.ledger.proofs.Closed.{closed_totals, closed_left}
use Rattle.tree.specs.Places.{IsCensus, at_in}
use Rattle.table_steps.specs.declared.state.State.{State}
use Rattle.table_steps.specs.Keeping.{kept_by}
use Rattle.table_steps.specs.Kept.{IsKept, world_of}
use Rattle.table_steps.specs.Living.{AreLiving, opening_at, life_of}
use Rattle.table_steps.specs.Steps.{ClosesPeriod}
use Rattle.table_steps.proofs.NextPeriod.{all_alive, are_openings, law_closed, living_count, opened_same}
use Rattle.std.specs.Prelude.{sum_by}
use Rattle.ledger.specs.declared.births.KeptBirths.{KeptBirths}

module _ (s : State) (kept : IsKept s) (pairs : List (ℕ × ℕ)) (living : AreLiving (at_in s.tree) pairs) where
  pub are_all_alive : AreAllAlive s.ledger.made pairs
  are_all_alive = all_alive (at_in s.tree) s.ledger.made (kept_by s.flights s.files) pairs kept.law living

  -- what is left of all of them is all that was left
  pub all_left : (new : Periods) → new.totals ≡ totals_over s.ledger.made → new.last ≡ map (opening_at (at_in s.tree)) pairs → new.totals.backs + new.totals.forgotten + sum_by carried_by new.last ≡ new.totals.entries
  all_left new totals last =
      let law = kept.law in
      closed_left s.ledger.made new pairs law.booked.counted.never_negative law.booked.carried are_all_alive totals (last ∙ opened_same (at_in s.tree) s.ledger.made (kept_by s.flights s.files) pairs law living)

  module _ (census : IsCensus (at_in s.tree) s.tree.living s.tree.counts) where
    count : length pairs + 1 ≡ s.tree.living
    count =
        let root = kept.law.tree.rooted in
        living_count (at_in s.tree) pairs living (root.node, root.here) s.tree.living s.tree.counts census

    -- each of them has a birth or an opening
    pub few_living : length pairs ≤ length s.ledger.made.last
    few_living = omega (arith, count, kept.limited.begun)

    module _ (ledger : Postings) (closes : Closes s.ledger.made pairs ledger.made) (carried : IsCarriedOver ledger.made) where
      as_many : length ledger.made.last ≡ length pairs
      as_many = ap {B = ℕ} length closes.last ∙ length-map pairs (opening_of s.ledger.made)

      pub closes_period : (fewer : ℕ) → fewer + length ledger.made.last ≡ length s.ledger.made.last → ClosesPeriod (world_of s) fewer (world_of (record s { ledger = ledger }))
      closes_period fewer shorter = record {
        births = closes.births;
        births_once = closes.births_once;
        totals = closes.totals;
        openings = are_openings (at_in s.tree) s.ledger.made (kept_by s.flights s.files) pairs kept.law living ledger.made closes carried;
        fewer_is = shorter;
        new_is = refl;
      }

      pub period_kept : ledger.room + length ledger.made.last ≡ s.ledger.room + length s.ledger.made.last → ledger.places ≡ s.ledger.places → ledger.limit ≡ s.ledger.limit → IsKept (record s { ledger = ledger })
      period_kept room places limit =
          let totals : totals_over ledger.made ≡ totals_over s.ledger.made = closed_totals s.ledger.made ledger.made pairs closes in
          record {
            law = law_closed (at_in s.tree) s.ledger.made (kept_by s.flights s.files) pairs kept.law living ledger.made closes carried;
            flying = kept.flying;
            held = kept.held;
            ready = kept.ready;
            provided = kept.provided;
            few = kept.few;
            reserved = record {
              nodes = kept.reserved.nodes;
              births = omega (arith, kept.reserved.births, places);
              postings = λ b. omega (arith, kept.reserved.postings b, room, as_many, few_living);
              whole = λ f. omega (arith, kept.reserved.whole f, room);
              files = kept.reserved.files;
            };
            limited = record {
              nodes = kept.limited.nodes;
              postings = λ b. omega (arith, kept.limited.postings b, as_many, few_living);
              begun_within = kept.limited.begun_within;
              entries = omega (arith, kept.limited.entries, ap {B = ℕ} (λ (t : Totals). t.entries) totals);
              counted = omega (arith, kept.limited.counted, ap {B = ℕ} (λ (t : Totals). t.entries) totals);
              births = omega (arith, kept.limited.births, ap {B = ℕ} (λ (t : Totals). t.entries) totals, ap {B = ℕ} (λ (t : Totals). t.born) totals);
              begun = omega (arith, count, as_many);
              flights = kept.limited.flights;
              files = kept.limited.files;
              handles = kept.limited.handles;
              node_limit = kept.limited.node_limit;
              posting_limit = limit ∙ kept.limited.posting_limit;
              short = kept.limited.short;
            };
            counts = kept.counts;
            filed = kept.filed;
            files = kept.files;
          }

-- the ledger was closed, and what was left was opened in it
module _ (s : State) (kept : IsKept s) (census : IsCensus (at_in s.tree) s.tree.living s.tree.counts) (was shut next : Postings) (was_is : was ≡ s.ledger)
    (births : (n : ℕ) → births_closed n shut.made.births ≡ births_of n was.made) (once : AllPairs (λ (b c : KeptBirths). b.number ≢ c.number) shut.made.births) (totals : shut.made.totals ≡ totals_over was.made)
    (limit : shut.limit ≡ was.limit) (room : shut.room ≡ was.room + length was.made.last) (places : shut.places ≡ was.places)
    (living : AreLiving (at_in s.tree) (map life_of next.made.last)) (opened : next.made.last ≡ map (opening_at (at_in s.tree)) (map life_of next.made.last))
    (closed : next.made ≡ record shut.made { last = next.made.last }) (rest : next ≡ record shut { made = next.made; room = next.room }) (room_left : next.room + length next.made.last ≡ shut.room) where
  abbrev lives : List (ℕ × ℕ)
  lives = map life_of next.made.last

  totals_now : next.made.totals ≡ totals_over s.ledger.made
  totals_now = ap (λ (ps : Periods). ps.totals) closed ∙ (totals ∙ ap (λ (l : Postings). totals_over l.made) was_is)

  pub next_left : next.made.totals.backs + next.made.totals.forgotten + sum_by carried_by next.made.last ≡ next.made.totals.entries
  next_left = all_left s kept lives living next.made totals_now opened

  pub next_entered : next.made.totals.born ≤ next.made.totals.entries
  next_entered = subst (λ (t : Totals). t.born ≤ t.entries) (sym totals_now) kept.limited.births

  next_closes : Closes s.ledger.made lives next.made
  next_closes = record {
    births = λ n. ap (λ (ps : Periods). births_closed n ps.births) closed ∙ (births n ∙ ap (λ (l : Postings). births_of n l.made) was_is);
    births_once = subst (λ (bs : List KeptBirths). AllPairs (λ (b c : KeptBirths). b.number ≢ c.number) bs) (sym (ap (λ (ps : Periods). ps.births) closed)) once;
    totals = totals_now;
    last = opened ∙ opened_same (at_in s.tree) s.ledger.made (kept_by s.flights s.files) lives kept.law living;
  }

  pub next_count : length next.made.last + 1 ≡ s.tree.living
  next_count = omega (arith, count s kept lives living census, length-map next.made.last life_of)

  pub next_fewer : length next.made.last ≤ length s.ledger.made.last
  next_fewer = omega (arith, next_count, kept.limited.begun)

  pub next_room : next.room + length next.made.last ≡ s.ledger.room + length s.ledger.made.last
  next_room = omega (arith, room_left, room, ap {B = ℕ} (λ (l : Postings). l.room) was_is, ap {B = ℕ} (λ (l : Postings). length l.made.last) was_is)

  module _ (carried : IsCarriedOver next.made) where
    pub next_period : (fewer : ℕ) → fewer + length next.made.last ≡ length s.ledger.made.last → ClosesPeriod (world_of s) fewer (world_of (record s { ledger = next }))
    next_period fewer shorter = closes_period s kept lives living census next next_closes carried fewer shorter

    pub next_kept : IsKept (record s { ledger = next })
    next_kept = period_kept s kept lives living census next next_closes carried next_room
        (ap (λ (l : Postings). l.places) rest ∙ (places ∙ ap (λ (l : Postings). l.places) was_is))
        (ap (λ (l : Postings). l.limit) rest ∙ (limit ∙ ap (λ (l : Postings). l.limit) was_is))
