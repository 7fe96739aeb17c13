-- The invariants of a table when its nodes and its ledger change, and the requests in flight do not.
use Rattle.std.proofs.Common.{ℕ, ◌+◌, ◌-◌, ◌≤◌, ◌≡◌, ◌≢◌, List, [], ◌∷◌, ◌++◌, Some, length, length-append, min, reverse, refl, sym, ap, ◌∙◌, subst, arith}
use Rattle.std.proofs.lemmas.Option.{none-some, same_Some}
use Rattle.paths.specs.Prefixes.{Names}
use Rattle.ledger.specs.declared.postings.Posting.{Posting}
use Rattle.ledger.specs.Periods.{Periods, posted}
use Rattle.ledger.specs.declared.postings.Posting.TheVariants.{Forget}
use Rattle.ledger.specs.declared.shares.Totals.{Totals}
use Rattle.ledger.specs.Postings.{Postings}
use Rattle.ledger.specs.Shares.{plus}
use Rattle.ledger.specs.Sums.{totals_by, totals_over}
use Rattle.ledger.proofs.SharesLemmas.{totals_over-push}
use Rattle.tree.specs.declared.nodes.Node.{Node}
use Rattle.tree.specs.Places.{Lookup, Nodes, at_in, with_node, IsPathOf, IsTree}
use Rattle.tree.specs.Moves.{Writes}
use Rattle.tree.proofs.Writing.{reaches_now}
use Rattle.table_files.specs.OpenEntry.{Filing, files_of}
use Rattle.table_files.specs.Handles.{AreOpenEntries}
use Rattle.table_requests.specs.RequestMaps.{AreLawfulRequests}
use Rattle.table_requests.specs.Listed.{InFlight, requests_of}
use Rattle.table_law.specs.Law.{HaveReasons}
use Rattle.table_steps.specs.Upheld.{IsUpheld}
use Rattle.table_steps.specs.Keeping.{kept_by}
use Rattle.table_steps.specs.declared.state.State.{State}
use Rattle.table_steps.specs.Kept.{IsKept, flights_in, world_of}
use Rattle.table_steps.specs.Steps.{Forgets, Takes}
use Rattle.table_steps.specs.Swept.{IsSwept}
use Rattle.table_steps.specs.Sweeping.{HaveReasonsBut, IsPruned, IsSameRest}
use Rattle.table_steps.specs.Upheld.{IsBooked}
use Rattle.table_steps.specs.World.{AreHeld, AreReady, RequestsInFlight, HaveNodes, World}
use Rattle.table_steps.proofs.Filing.{nodes_swept, nodes_written}
use Rattle.table_steps.proofs.Guarding.{left_where, sweeps_harmless}
use Rattle.table_steps.proofs.Lawful.{booked_of, booked_forget, lawful_swept}
use Rattle.table_steps.proofs.Reasons.{HaveReasons-none, HaveReasons-some, HaveReasons-write}
use Rattle.table_steps.proofs.Viewed.{are_kept}

-- one more posting
pub record PostsOne (ps qs : Periods) (counted : Totals) : Type 0 where
  pub count : length qs.last ≡ length ps.last + 1
  pub entries : (totals_over qs).entries ≡ (totals_over ps).entries + counted.entries
  pub births : (totals_over qs).born ≡ (totals_over ps).born + counted.born

pub posts_one : (ps qs : Periods) (p : Posting) → qs ≡ posted ps p → PostsOne ps qs (totals_by p)
posts_one ps qs p e =
    let totals : totals_over qs ≡ plus (totals_over ps) (totals_by p) = ap totals_over e ∙ totals_over-push ps p in
    record {
      count = omega (arith, ap {B = ℕ} (λ (rs : Periods). length rs.last) e, length-append ps.last (p ∷ []));
      entries = ap (λ (t : Totals). t.entries) totals;
      births = ap (λ (t : Totals). t.born) totals;
    }

-- births and entries are unchanged, and no posting was removed
pub record IsSameTotals (old new : Periods) : Type 0 where
  pub grows : length old.last ≤ length new.last
  pub entries : (totals_over new).entries ≡ (totals_over old).entries
  pub births : (totals_over new).born ≡ (totals_over old).born

pub totals_same : (ps : Periods) → IsSameTotals ps ps
totals_same ps = record { grows = omega arith; entries = refl; births = refl }

-- what a write preserves of a tree
pub record IsWritten (old new : Nodes) : Type 0 where
  pub living : new.living ≡ old.living
  pub limit : new.limit ≡ old.limit
  pub room : new.room ≡ old.room

pub written : (old new : Nodes) (n : ℕ) (x y : Node) → Writes old n x y new → IsWritten old new
written old new n x y w = record {
  living = ap (λ (t : Nodes). t.living) w.rest;
  limit = ap (λ (t : Nodes). t.limit) w.rest;
  room = ap (λ (t : Nodes). t.room) w.rest;
}

-- ---- what requests rely on

-- each path leads to the same node as before
abbrev pub KeepsAllPaths : Lookup → Lookup → Type 0
KeepsAllPaths old new = (n : ℕ) (q : Names) → IsPathOf old n q → IsPathOf new n q

pub ready_where : (old new : Lookup) (flights : RequestsInFlight) → IsTree new → KeepsAllPaths old new → AreReady old flights → AreReady new flights
ready_where old new flights tree keeps ready id f work here =
    (left_where old new flights tree (λ _ _ _ _ n pin q prefixes h. keeps n q h)).ready id f work here (ready id f work here)

pub ready_swept : (old new : Lookup) (flights : InFlight) (files : Filing) → AreLawfulRequests (requests_of flights) → AreOpenEntries (files_of files) → IsTree new → IsSwept (kept_by flights files) old new
    → AreReady old (flights_in (requests_of flights)) → AreReady new (flights_in (requests_of flights))
ready_swept old new flights files flying filed tree swept ready id f work here =
    (sweeps_harmless (flights_in (requests_of flights)) (files_of files).at old new (kept_by flights files) tree (are_kept flights files flying filed) swept).ready id f work here (ready id f work here)

-- the recorded paths remain known for a request that has what it relies on
pub held_ready : (old new : Lookup) (flights : RequestsInFlight) → AreReady new flights → AreHeld old flights → AreHeld new flights
held_ready old new flights ready held = record {
  apart = held.apart;
  known = λ id f work here k d within. record {
    path = (ready id f work here).holds.leads k d within;
    prefixes = (held.known id f work here k d within).prefixes;
  };
}

-- a change of count moves no node
pub paths_written : (at : Lookup) (n : ℕ) (x : Node) (c : ℕ) → at n ≡ Some x → KeepsAllPaths at (with_node at n (record x { count = c }))
paths_written at n x c stood m q h = reaches_now at n x (record x { count = c }) stood (record { number = refl; generation = refl; place = refl }) 1 (reverse q) m h

-- ---- nodes and ledger change

-- nodes and ledger may change if the law is maintained, requests in progress have what they rely on, and there is room
pub kept_changed : (s : State) (tree : Nodes) (ledger : Postings) (counts : ℕ) → IsKept s
    → IsUpheld (at_in tree) ledger.made (kept_by s.flights s.files) → AreReady (at_in tree) (flights_in (requests_of s.flights)) → HaveNodes (at_in tree) (files_of s.files).at
    → s.tree.room ≤ tree.room → tree.living ≤ s.tree.living → tree.limit ≡ s.tree.limit
    → s.ledger.room + tree.counts ≤ ledger.room + s.tree.counts → length s.ledger.made.last + s.ledger.room ≤ length ledger.made.last + ledger.room → s.ledger.places ≤ ledger.places → length ledger.made.last + tree.counts ≤ length s.ledger.made.last + s.tree.counts → IsSameTotals s.ledger.made ledger.made → ledger.limit ≡ s.ledger.limit → counts ≡ tree.counts
    → IsKept (record s { tree = tree; ledger = ledger; counts = counts })
kept_changed s tree ledger counts kept law ready nodes room living limit posting_room whole places made totals posting_limit same = record {
  law = law;
  flying = kept.flying;
  held = held_ready (at_in s.tree) (at_in tree) (flights_in (requests_of s.flights)) ready kept.held;
  ready = ready;
  provided = kept.provided;
  few = kept.few;
  reserved = record {
    nodes = omega (arith, kept.reserved.nodes);
    births = omega (arith, kept.reserved.births, places);
    postings = λ b. omega (arith, kept.reserved.postings b);
    whole = λ f. omega (arith, kept.reserved.whole f, whole);
    files = kept.reserved.files;
  };
  limited = record {
    nodes = omega (arith, kept.limited.nodes);
    postings = λ b. omega (arith, kept.limited.postings b, made);
    begun_within = kept.limited.begun_within;
    entries = omega (arith, kept.limited.entries, totals.entries);
    counted = omega (arith, kept.limited.counted, totals.entries, made, totals.grows);
    births = omega (arith, kept.limited.births, totals.entries, totals.births);
    begun = omega (arith, kept.limited.begun, totals.grows);
    flights = kept.limited.flights;
    files = kept.limited.files;
    handles = kept.limited.handles;
    node_limit = limit ∙ kept.limited.node_limit;
    posting_limit = posting_limit ∙ kept.limited.posting_limit;
    short = kept.limited.short;
  };
  counts = same;
  filed = kept.filed;
  files = nodes;
}

-- ---- forget

module _ (s : State) (kept : IsKept s) (number : ℕ) (x : Node) (stood : at_in s.tree number ≡ Some x) (amount : ℕ) (some : amount ≢ 0) (fits : amount ≤ x.count) (tree : Nodes) (writes : Writes s.tree number x (record x { count = x.count - amount }) tree) (law : IsTree (at_in tree)) where
  pub forget_pruned : IsPruned (at_in tree) (kept_by s.flights s.files) (number ∷ [])
  forget_pruned = record {
    tree = law;
    reasons =
        let pinned = (kept_by s.flights s.files) in
        subst (λ a. HaveReasonsBut a pinned (number ∷ [])) (sym writes.nodes)
        (HaveReasons-write (at_in s.tree) pinned number x (record x { count = x.count - amount }) [] stood refl (HaveReasons-some (at_in s.tree) pinned [] kept.law.reasons));
  }

  module _ (ledger : Postings) (new : Nodes) (made : ledger.made ≡ posted s.ledger.made (Forget number x.generation amount)) (swept : IsSwept (kept_by s.flights s.files) (at_in tree) (at_in new)) where
    pub forget_kept : ledger.limit ≡ s.ledger.limit → ledger.room + 1 ≡ s.ledger.room → s.ledger.places ≤ ledger.places → IsPruned (at_in new) (kept_by s.flights s.files) [] → IsSameRest tree new
        → IsKept (record s { tree = new; ledger = ledger; counts = s.counts - amount })
    forget_kept limit room places pruned rest =
        let all = requests_of s.flights in
        let w = written s.tree tree number x (record x { count = x.count - amount }) writes in
        let one = posts_one s.ledger.made ledger.made (Forget number x.generation amount) made in
        let booked : IsBooked (at_in tree) ledger.made (kept_by s.flights s.files) =
        rw (writes.nodes, made) (booked_forget (at_in s.tree) s.ledger.made (kept_by s.flights s.files) (booked_of (at_in s.tree) s.ledger.made (kept_by s.flights s.files) kept.law) number x stood amount (omega arith) fits) in
        let paths : KeepsAllPaths (at_in s.tree) (at_in tree) = subst (λ a. KeepsAllPaths (at_in s.tree) a) (sym writes.nodes) (paths_written (at_in s.tree) number x (x.count - amount) stood) in
        let files = (files_of s.files).at in
        let nodes : HaveNodes (at_in tree) files = subst (λ a. HaveNodes a files) (sym writes.nodes) (nodes_written files (at_in s.tree) number x (record x { count = x.count - amount }) stood refl kept.files) in
        let left : AreReady (at_in tree) (flights_in all) = ready_where (at_in s.tree) (at_in tree) (flights_in all) law paths kept.ready in
        kept_changed s new ledger (s.counts - amount) kept
        (lawful_swept (at_in tree) (at_in new) ledger.made (kept_by s.flights s.files) booked swept pruned)
        (ready_swept (at_in tree) (at_in new) s.flights s.files kept.flying kept.filed pruned.tree swept left)
        (nodes_swept s.flights s.files kept.filed (at_in tree) (at_in new) swept nodes)
        (omega (arith, rest.room, w.room)) (omega (arith, rest.fewer, w.living)) (rest.limit ∙ w.limit)
        (omega (arith, writes.counts, rest.counts)) (omega (arith, room, one.count)) places (omega (arith, writes.counts, rest.counts, one.count)) (record { grows = omega (arith, one.count); entries = omega (arith, one.entries); births = omega (arith, one.births) }) limit
        (omega (arith, writes.counts, rest.counts, kept.counts))

    pub takes : HaveReasons (at_in new) (kept_by s.flights s.files) → Takes (world_of s) number amount x (world_of (record s { tree = new; ledger = ledger; counts = s.counts - amount }))
    takes reasons = record {
      sweeps = record {
        kept = kept_by s.flights s.files;
        keeps = are_kept s.flights s.files kept.flying kept.filed;
        swept = subst (λ a. IsSwept (kept_by s.flights s.files) a (at_in new)) writes.nodes swept;
        reasons = reasons;
      };
      new_is = ap (λ (ps : Periods). let w : World = record (world_of s) { at = at_in new; postings = ps } in w) made;
    }

    pub forgets : IsPruned (at_in new) (kept_by s.flights s.files) [] → (n : ℕ) → amount ≡ min n x.count → Forgets (world_of s) number n amount (world_of (record s { tree = new; ledger = ledger; counts = s.counts - amount }))
    forgets pruned n least =
        let after = world_of (record s { tree = new; ledger = ledger; counts = s.counts - amount }) in
        let same : (y : Node) → at_in s.tree number ≡ Some y → x ≡ y = λ y h. same_Some x y (sym stood ∙ h) in
        record {
          unknown = λ none. absurd (none-some x (sym none ∙ stood));
          smaller = λ y h. subst (λ (z : Node). amount ≡ min n z.count) (same y h) least;
          nothing = λ zero. absurd (some zero);
          something = λ y h _. subst (λ (z : Node). Takes (world_of s) number amount z after) (same y h) (takes (HaveReasons-none (at_in new) (kept_by s.flights s.files) pruned.reasons));
        }
