-- The export of a table shows the table, and is lawful.
use Rattle.std.proofs.Common.{ℕ, suc, zero, All, ◌+◌, ◌<◌, ◌≤◌, ◌≡◌, ◌≢◌, ◌==◌, ◌||◌, Bool, true, false, cond, List, [], ◌∷◌, ◌++◌, Option, Some, None, MatchOption, AllPairs, length, get_or, take, refl, sym, ap, ◌∙◌, subst, arith}
use Rattle.std.specs.Prelude.{option_map}
use Rattle.std.specs.List.{AllZip}
use Rattle.std.proofs.lemmas.List.{take_more}
use mathlib.Core.Path.{fun_ext}
use Rattle.ledger.specs.declared.births.KeptBirths.{KeptBirths}
use Rattle.ledger.specs.declared.postings.Posting.{Posting}
use Rattle.ledger.specs.declared.shares.Totals.{Totals}
use Rattle.paths.specs.Prefixes.{Names}
use Rattle.holds.specs.declared.held.Held.{Held}
use Rattle.holds.specs.Conflicts.{Conflict}
use Rattle.tree.specs.declared.nodes.Node.{Node}
use Rattle.tree.specs.Listed.{node_at, IsDistinct}
use Rattle.tree.specs.Places.{Lookup, Nodes, at_in, IsAlive}
use Rattle.table_files.specs.declared.listed.OpenEntry.{OpenEntry}
use Rattle.table_files.specs.OpenEntry.{file_in, files_of, opened_in}
use Rattle.table_files.specs.Handles.{Files}
use Rattle.table_files.proofs.Listing.{listed_at}
use Rattle.table_requests.specs.declared.data.RequestInFlight.{RequestInFlight}
use Rattle.table_requests.specs.declared.data.Stage as flight
use Rattle.table_requests.specs.declared.data.Stage.TheVariants as flight_stage
use Rattle.table_requests.specs.declared.data.Work.{Work}
use Rattle.table_requests.specs.RequestMaps.{RequestsInFlight, has_exclusive, has_shared}
use Rattle.table_requests.specs.Listed.{flight_in, requests_of, pinned_in}
use Rattle.table_requests.proofs.Lookups.{flight_in_found}
use Rattle.table_image.specs.declared.data.Hold.{Hold}
use Rattle.table_image.specs.declared.data.Image.{Image}
use Rattle.table_image.specs.declared.data.Record.{Record}
use Rattle.table_image.specs.declared.data.ImageStage.TheVariants.{Working, Answered}
use Rattle.table_law.specs.Law.{IsGivenPath, IsKnownFile}
use Rattle.table_image.specs.ImageLaw.{AreApart, AreCounts, AreHoldsCounted, AreKnown, IsLawfulImage, periods_in, is_kept, is_pinned, exclusive_of, sharers_of}
use Rattle.table_image.proofs.Exported.{ListsBelow, ListsBelow-all, IsLawfulImage-shows, Mirrors, is_pinned-mirrors, ids-mirrors}
use Rattle.table_steps.specs.declared.state.State.{State}
use Rattle.table.specs.Copies.{IsCopyOf, held_of, exclusive_in_all, sharers_in, stage_of}
use Rattle.table.specs.Exports.{Exports, IsRecordOf, held_by, record_in, stage_shown}
use Rattle.table_steps.specs.World.{AreHeld, IsAtWork}
use Rattle.table_steps.specs.Kept.{flight_of, work_of}
use Rattle.table_steps.specs.Kept as seen
use Rattle.table.proofs.Holders.{counts_same, owners_same, sharers_same}
use Rattle.table_steps.specs.Keeping.{kept_by}
use Rattle.table_steps.proofs.Lawful.{law_of}
use Rattle.table_steps.specs.Kept.{IsKept, world_of}

-- one more record
pub zip_push : (fs : List RequestInFlight) (rs : List Record) (f : RequestInFlight) (r : Record) → AllZip IsCopyOf fs rs → IsCopyOf f r → AllZip IsCopyOf (fs ++ f ∷ []) (rs ++ r ∷ [])
zip_push [] [] f r h one = (one, h)
zip_push [] (s ∷ rs) f r h one = absurd h
zip_push (g ∷ fs) [] f r h one = absurd h
zip_push (g ∷ fs) (s ∷ rs) f r h one = (h.0, zip_push fs rs f r h.1 one)

pub zip_more : (fs : List RequestInFlight) (i : ℕ) (d f : RequestInFlight) (rs : List Record) (r : Record) → i < length fs → f ≡ get_or fs i d → AllZip IsCopyOf (take i fs) rs → IsCopyOf f r → AllZip IsCopyOf (take (i + 1) fs) (rs ++ r ∷ [])
zip_more fs i d f rs r within is h one =
    subst (λ (gs : List RequestInFlight). AllZip IsCopyOf gs (rs ++ r ∷ [])) (sym (take_more fs i d within)) (zip_push (take i fs) rs (get_or fs i d) r h (subst (λ (g : RequestInFlight). IsCopyOf g r) is one))

mirrors : (fs : List RequestInFlight) (rs : List Record) → AllZip IsCopyOf fs rs → Mirrors (λ (f : RequestInFlight). f.id) (λ (f : RequestInFlight). f.pins.numbers) fs rs
mirrors [] [] h = h
mirrors [] (r ∷ rs) h = absurd h
mirrors (f ∷ fs) [] h = absurd h
mirrors (f ∷ fs) (r ∷ rs) h = ((h.0.id, h.0.pins), mirrors fs rs h.1)

-- a search of two lists whose elements agree on the test
found_where : (f : RequestInFlight) (fs : List RequestInFlight) (r : Record) (rs : List Record) (id : ℕ) (b : Bool) → IsCopyOf f r
    → MatchOption (flight_in fs id) (record_in rs id ≡ None) (λ g. (q : Record) × (record_in rs id ≡ Some q) × IsCopyOf g q)
    → MatchOption (cond b (Some f) (flight_in fs id)) (cond b (Some r) (record_in rs id) ≡ None) (λ g. (q : Record) × (cond b (Some r) (record_in rs id) ≡ Some q) × IsCopyOf g q)
found_where f fs r rs id true one later = (r, refl, one)
found_where f fs r rs id false one later = later

-- a request is found under its id exactly where its record is
pub records_found : (fs : List RequestInFlight) (rs : List Record) (id : ℕ) → AllZip IsCopyOf fs rs → MatchOption (flight_in fs id) (record_in rs id ≡ None) (λ f. (r : Record) × (record_in rs id ≡ Some r) × IsCopyOf f r)
records_found [] [] id h = refl
records_found [] (r ∷ rs) id h = absurd h
records_found (f ∷ fs) [] id h = absurd h
records_found (f ∷ fs) (r ∷ rs) id h =
    let it = found_where f fs r rs id (f.id == id) h.0 (records_found fs rs id h.1) in
    let same : (r.id == id) ≡ (f.id == id) = ap (λ (n : ℕ). n == id) h.0.id in
    rw same it

pub nodes_listed : (tree : Nodes) (last : ℕ) (xs : List Node) → ((n : ℕ) → IsAlive (at_in tree) n → n ≤ last) → ListsBelow (at_in tree) (last + 1) xs → node_at xs ≡ at_in tree
nodes_listed tree last xs all lists = fun_ext (ListsBelow-all (at_in tree) (last + 1) xs (λ n alive. let le = all n alive in omega arith) lists)

-- a record at an index, and the request that it shows
shown_at : (fs : List RequestInFlight) (rs : List Record) (i : ℕ) (d : Record) → AllZip IsCopyOf fs rs → i < length rs
    → (f : RequestInFlight) × (i < length fs) × ((e : RequestInFlight) → get_or fs i e ≡ f) × IsCopyOf f (get_or rs i d)
shown_at [] [] i d zip within = absurd (omega arith)
shown_at [] (r ∷ rs) i d zip within = absurd zip
shown_at (f ∷ fs) [] i d zip within = absurd zip
shown_at (f ∷ fs) (r ∷ rs) zero d zip within = (f, omega arith, λ e. refl, zip.0)
shown_at (f ∷ fs) (r ∷ rs) (suc i) d zip within = let it = shown_at fs rs i d zip.1 (omega arith) in (it.0, omega (arith, it.1), it.2, it.3)

-- a record that shows a request in progress has its work
working_of : (s : flight.Stage) → stage_of s ≡ Working → (work : Work) × (s ≡ flight_stage.Working work)
working_of (flight_stage.Working work) is = (work, refl)
working_of (flight_stage.Answered before opened) is = let never : Answered ≡ Working = is in cc

-- a request in progress, as the world shows it
at_work : (flights : RequestsInFlight) (id : ℕ) (f : RequestInFlight) (work : Work) → flights id ≡ Some f → f.stage ≡ flight_stage.Working work → IsAtWork (λ k. option_map flight_of (flights k)) id (flight_of f) (work_of work)
at_work flights id f work here working = record { here = ap (option_map flight_of) here; working = ap seen.stage_of working }

stage_seen : (s : flight.Stage) → stage_of s ≡ stage_shown (seen.stage_of s)
stage_seen (flight_stage.Working work) = refl
stage_seen (flight_stage.Answered before opened) = refl

held_seen : (s : flight.Stage) → held_of s ≡ held_by (seen.stage_of s)
held_seen (flight_stage.Working work) = refl
held_seen (flight_stage.Answered before opened) = refl

-- the copy of a request is the record of what the world shows of it
record_seen : (rs : List Record) (id : ℕ) (o : Option RequestInFlight) → ((f : RequestInFlight) → o ≡ Some f → f.id ≡ id)
    → MatchOption o (record_in rs id ≡ None) (λ f. (r : Record) × (record_in rs id ≡ Some r) × IsCopyOf f r)
    → MatchOption (option_map flight_of o) (record_in rs id ≡ None) (λ f. (r : Record) × (record_in rs id ≡ Some r) × IsRecordOf id f r)
record_seen rs id None numbered none = none
record_seen rs id (Some f) numbered (r, found, copy) = (
  r,
  found,
  record {
    id_is = copy.id ∙ numbered f refl;
    unique = copy.unique;
    stage = copy.stage ∙ stage_seen f.stage;
    pins = copy.pins;
    held = copy.held ∙ held_seen f.stage;
  },
)

-- the request shown by the record at an index, if it is in progress
record IsShown (flights : RequestsInFlight) (fs : List RequestInFlight) (i : ℕ) (r : Record) : Type 0 where
  flight : RequestInFlight
  work : Work
  place : (e : RequestInFlight) → get_or fs i e ≡ flight
  there : flights flight.id ≡ Some flight
  stage : flight.stage ≡ flight_stage.Working work
  held : r.held ≡ work.held
  within : i < length fs

module _ (flights : RequestsInFlight) (fs : List RequestInFlight) (rs : List Record) (at : flight_in fs ≡ flights) (own : AllPairs (λ (f g : RequestInFlight). f.id ≢ g.id) fs) (zip : AllZip IsCopyOf fs rs) where
  shown : (i : ℕ) (d : Record) → i < length rs → (get_or rs i d).stage ≡ Working → IsShown flights fs i (get_or rs i d)
  shown i d within is =
      let it = shown_at fs rs i d zip within in
      let f = it.0 in
      let found : flight_in fs f.id ≡ Some f = subst (λ (g : RequestInFlight). flight_in fs g.id ≡ Some g) (it.2 f) (flight_in_found fs i f own it.1) in
      let w = working_of f.stage (sym it.3.stage ∙ is) in
      record {
        flight = f;
        work = w.0;
        place = it.2;
        there = sym (ap (λ (l : RequestsInFlight). l f.id) at) ∙ found;
        stage = w.1;
        held = it.3.held ∙ ap held_of w.1;
        within = it.1;
      }

  -- requests that do not conflict show records that do not
  pub records_apart : (l : Lookup) → AreHeld l (λ k. option_map flight_of (flights k)) → AreApart rs
  records_apart l held i j d before within = record {
    clear = λ one two conflict.
        let a = shown i d (omega arith) one in
        let b = shown j d within two in
        let other : a.flight.id ≢ b.flight.id = λ e. own i j a.flight before b.within (ap (λ (f : RequestInFlight). f.id) (a.place a.flight) ∙ (e ∙ sym (ap (λ (f : RequestInFlight). f.id) (b.place a.flight)))) in
        let both : Conflict a.work.held b.work.held = subst (λ (h : Held). Conflict a.work.held h) b.held (subst (λ (h : Held). Conflict h (get_or rs j d).held) a.held conflict) in
        held.apart a.flight.id b.flight.id (flight_of a.flight) (flight_of b.flight) (work_of a.work) (work_of b.work)
        (at_work flights a.flight.id a.flight a.work a.there a.stage) (at_work flights b.flight.id b.flight b.work b.there b.stage) other both;
  }

  -- the paths recorded for them are those of the requests
  pub records_known : (l : Lookup) → AreHeld l (λ k. option_map flight_of (flights k)) → AreKnown l rs
  records_known l held i d within = record {
    leads = λ is.
        let a = shown i d within is in
        subst (λ (h : Held). All (IsGivenPath l h) h.given) (sym a.held) (held.known a.flight.id (flight_of a.flight) (work_of a.work) (at_work flights a.flight.id a.flight a.work a.there a.stage));
  }

module _ (s : State) (kept : IsKept s) (xs : List Node) (bs : List KeptBirths) (closed : Totals) (ps : List Posting) (rs : List Record) (fs : List RequestInFlight) (distinct : IsDistinct xs) (nodes : node_at xs ≡ at_in s.tree) (births : bs ≡ s.ledger.made.births) (totals : closed ≡ s.ledger.made.totals) (postings : ps ≡ s.ledger.made.last)
    (at : flight_in fs ≡ (requests_of s.flights).at) (pinned : pinned_in fs ≡ (requests_of s.flights).pinned) (many : length fs ≡ (requests_of s.flights).many) (apart : AllPairs (λ (f g : RequestInFlight). f.id ≢ g.id) fs) (zip : AllZip IsCopyOf fs rs)
    (hs : List Hold) (counts : AreCounts (sharers_in s.flights.flights) (exclusive_in_all s.flights.flights) hs)
    (opened : List OpenEntry) (files_at : file_in opened ≡ (files_of s.files).at) (are_opened : opened_in opened ≡ (files_of s.files).opened) (rising : AllPairs (λ (f g : OpenEntry). f.handle < g.handle) opened)
    (last : ℕ) (last_is : last ≡ (files_of s.files).last) where
  abbrev image : Image
  image = record { nodes = xs; births = bs; closed = closed; postings = ps; records = rs; holds = hs; files = opened; counter = s.counter; last_handle = last }

  handles : AllPairs (λ (f g : OpenEntry). f.handle ≢ g.handle) opened
  handles i j d before within same = let less = rising i j d before within in omega (arith, less, same)

  -- each file is found under its handle, and so known
  known_files : All (IsKnownFile (at_in s.tree) last) opened
  known_files k d within =
      let f : OpenEntry = get_or opened k d in
      let here : (files_of s.files).at f.handle ≡ Some f.file = ap (λ (at : Files). at f.handle) (sym files_at) ∙ listed_at opened rising k d within in
      record { node = kept.files f.handle f.file here; given = omega (arith, last_is, (kept.filed.given f.handle f.file here).1) }

  keeps : (n : ℕ) → is_kept rs opened n ≡ kept_by s.flights s.files n
  unfolding kept_by
  keeps n =
      let pins : is_pinned rs n ≡ (requests_of s.flights).pinned n = is_pinned-mirrors (λ (f : RequestInFlight). f.id) (λ (f : RequestInFlight). f.pins.numbers) fs rs (mirrors fs rs zip) n ∙ ap (λ (p : ℕ → Bool). p n) pinned in
      ap {B = Bool} (λ (b : Bool). b || opened_in opened n) pins ∙ ap {B = Bool} (λ (p : ℕ → Bool). (requests_of s.flights).pinned n || p n) are_opened

  ids : AllPairs (λ (r t : Record). r.id ≢ t.id) rs
  ids = ids-mirrors (λ (f : RequestInFlight). f.id) (λ (f : RequestInFlight). f.pins.numbers) fs rs (mirrors fs rs zip) apart

  counted : AreHoldsCounted hs rs
  counted =
      let sharing : sharers_of rs ≡ sharers_in s.flights.flights = sharers_same fs rs zip ∙ fun_ext (λ path. counts_same (λ (f : RequestInFlight). has_shared f.stage path) fs s.flights apart at many) in
      let owning : exclusive_of rs ≡ exclusive_in_all s.flights.flights = owners_same fs rs zip ∙ fun_ext (λ path. counts_same (λ (f : RequestInFlight). has_exclusive f.stage path) fs s.flights apart at many) in
      subst (λ (S : Names → ℕ). AreCounts S (exclusive_of rs) hs) (sym sharing) (subst (λ (O : Names → ℕ). AreCounts (sharers_in s.flights.flights) O hs) (sym owning) counts)

  ledger : periods_in image ≡ s.ledger.made
  ledger = λ i. record { births = births i; totals = totals i; last = postings i }

  pub exports : Exports (world_of s) image
  exports = record {
    distinct = distinct;
    nodes = nodes;
    ledger = ledger;
    ids = ids;
    records = λ id. record_seen rs id ((requests_of s.flights).at id) (kept.flying.numbered id)
        (subst (λ (a : RequestsInFlight). MatchOption (a id) (record_in rs id ≡ None) (λ f. (r : Record) × (record_in rs id ≡ Some r) × IsCopyOf f r)) at (records_found fs rs id zip));
    holds = counted;
    handles = handles;
    files = files_at;
    counter = refl;
    last_handle = last_is;
  }

  pub exports_lawful : IsLawfulImage image
  exports_lawful = IsLawfulImage-shows image (at_in s.tree) s.ledger.made (kept_by s.flights s.files) (record {
    distinct = distinct;
    nodes = λ n. ap (λ (a : Lookup). a n) nodes;
    ledger = ledger;
    ids = ids;
    handles = handles;
    keeps = keeps;
    files = known_files;
    counted = counted;
    apart = records_apart (requests_of s.flights).at fs rs at apart zip (at_in s.tree) kept.held;
    known = records_known (requests_of s.flights).at fs rs at apart zip (at_in s.tree) kept.held;
  }) (law_of (at_in s.tree) s.ledger.made (kept_by s.flights s.files) kept.law)
