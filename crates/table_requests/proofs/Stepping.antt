-- Each step on the requests in flight, in terms of the list.
use Rattle.std.proofs.Common.{ℕ, ◌<◌, ◌≡◌, ◌==◌, ◌||◌, true, false, List, [], ◌∷◌, ◌++◌, Option, Some, None, IfNone, IfSome, Vec, length, slice_get, get_or, set, refl, sym, ap, ◌∙◌, subst, arith}
use Rattle.std.specs.List.{remove, list_any}
use Rattle.std.proofs.lemmas.Option.{same_Some}
use Rattle.std.proofs.lemmas.List.{length-set, length-append}
use Rattle.std.proofs.lemmas.List.Edits.{length-remove}
use Rattle.std.proofs.lemmas.List.Sums.{sum_by-set, sum_by-remove, sum_by_push}
use Rattle.std.specs.declared.alloc.Global.{Global}
use Rattle.table_requests.specs.declared.data.EndedRequest.{EndedRequest}
use Rattle.table_requests.specs.declared.data.RequestInFlight.{RequestInFlight}
use Rattle.table_requests.specs.declared.data.Work.{Work}
use Rattle.table_requests.specs.declared.data.Stage.{Stage}
use Rattle.table_requests.specs.declared.data.Stage.TheVariants.{Working, Answered}
use Rattle.table_requests.specs.Roomy.{Pinned}
use Rattle.table_requests.specs.RequestMaps.{RequestsInFlight, with_flight, without_flight, pins_number, opening, pinning, answered, files_promised, is_working, nodes_promised, postings_promised, with_opened, HasNoneWorking, HasNoneAnswered, Adds, Answers, Notes, PinsMore, Goes}
use Rattle.table_requests.specs.Listed.{AreBelow, flight_in, pinned_in, InFlight, in_flight, requests_of, HaveOwnIds}
use Rattle.table_requests.proofs.Lookups.{alive_at, flight_in-push, flight_in-set, flight_in-remove, HaveOwnIds-set, HaveOwnIds-remove}
use Rattle.table_requests.proofs.NextIds.{below_with, below_without}
use Rattle.table_requests.proofs.Kept.{pinned_in-push, pinned_in-same, pinned_in-pinning, pinned_in-remove}

-- noting a file promises nothing
nodes_noted : (st : Stage) (handle : ℕ) → nodes_promised (with_opened st handle) ≡ nodes_promised st
nodes_noted (Working work) handle = refl
nodes_noted (Answered before opened) handle = refl

postings_noted : (st : Stage) (handle : ℕ) → postings_promised (with_opened st handle) ≡ postings_promised st
postings_noted (Working work) handle = refl
postings_noted (Answered before opened) handle = refl

files_noted : (st : Stage) (handle : ℕ) → files_promised (with_opened st handle) ≡ files_promised st
files_noted (Working work) handle = refl
files_noted (Answered before opened) handle = refl

pub fresh_in : (v : Vec RequestInFlight Global) (all : InFlight) → in_flight v ≡ all → (id : ℕ) → (requests_of all).at id ≡ None → flight_in v.items id ≡ None
unfolding requests_of
fresh_in v all is id h = subst (λ (a : InFlight). flight_in a.flights id ≡ None) (sym is) h

pub Adds-listed : (fs : List RequestInFlight) (g : RequestInFlight) (room room' : ℕ) → flight_in fs g.id ≡ None → Adds (requests_of (record { flights = fs; room = room })) g (requests_of (record { flights = (fs ++ g ∷ []); room = room' }))
unfolding requests_of
Adds-listed fs g room room' fresh = record {
  at = flight_in-push fs g fresh;
  pinned = pinned_in-push fs g;
  many = length-append fs (g ∷ []);
  nodes = sum_by_push (λ (f : RequestInFlight). nodes_promised f.stage) fs g;
  postings = sum_by_push (λ (f : RequestInFlight). postings_promised f.stage) fs g;
  files = sum_by_push (λ (f : RequestInFlight). files_promised f.stage) fs g;
}

module _ (fs : List RequestInFlight) (i id : ℕ) (within : i < length fs) (found : slice_get fs i ≡ flight_in fs id) where
  here : RequestInFlight
  here = (alive_at fs i id within found).0

  stood : flight_in fs id ≡ Some (alive_at fs i id within found).0
  stood = (alive_at fs i id within found).1

  read : (d : RequestInFlight) → get_or fs i d ≡ (alive_at fs i id within found).0
  read = (alive_at fs i id within found).2

  id_here : (alive_at fs i id within found).0.id ≡ id
  id_here = (alive_at fs i id within found).3

  -- a look-up after a write at the id
  changed : (g : RequestInFlight) → HaveOwnIds fs → g.id ≡ id → flight_in (set fs i g) ≡ with_flight (flight_in fs) id g
  changed g apart same =
      flight_in-set fs i g g apart within (ap (λ (f : RequestInFlight). f.id) (read g) ∙ (id_here ∙ sym same)) ∙ ap (λ (k : ℕ). with_flight (flight_in fs) k g) same

  pub apart_changed : (gs : List RequestInFlight) (h : RequestInFlight → RequestInFlight) → ((f : RequestInFlight) → (h f).id ≡ f.id) → ((d : RequestInFlight) → gs ≡ set fs i (h (get_or fs i d))) → HaveOwnIds fs → HaveOwnIds gs
  apart_changed gs h kept written apart =
      let x = (alive_at fs i id within found).0 in
      subst HaveOwnIds (sym (written x)) (HaveOwnIds-set fs i (h (get_or fs i x)) within (λ d. ap (λ (f : RequestInFlight). f.id) (read d ∙ sym (read x)) ∙ sym (kept (get_or fs i x))) apart)

  pub below_changed : (gs : List RequestInFlight) (h : RequestInFlight → RequestInFlight) → ((f : RequestInFlight) → (h f).id ≡ f.id) → ((d : RequestInFlight) → gs ≡ set fs i (h (get_or fs i d))) → HaveOwnIds fs
      → (n : ℕ) → AreBelow n (flight_in fs) → AreBelow n (flight_in gs)
  below_changed gs h kept written apart n all =
      let x = (alive_at fs i id within found).0 in
      let y = h (get_or fs i x) in
      let same : y.id ≡ id = kept (get_or fs i x) ∙ (ap (λ (f : RequestInFlight). f.id) (read x) ∙ id_here) in
      let at : flight_in gs ≡ with_flight (flight_in fs) id y = ap flight_in (written x) ∙ changed y apart same in
      subst (λ (a : RequestsInFlight). AreBelow n a) (sym at) (below_with (flight_in fs) n id y all (all id x stood))

  -- what is removed, if it was answered
  pub below_taken : (gs : List RequestInFlight) (o : Option EndedRequest) → HaveOwnIds fs → IfNone o (gs ≡ fs) → IfSome o (λ _. gs ≡ remove fs i) → (n : ℕ) → AreBelow n (flight_in fs) → AreBelow n (flight_in gs)
  below_taken gs None apart same is n all = subst (λ (hs : List RequestInFlight). AreBelow n (flight_in hs)) (sym same) all
  below_taken gs (Some ps) apart same is n all =
      let x = (alive_at fs i id within found).0 in
      subst (λ (a : RequestsInFlight). AreBelow n a) (sym (ap flight_in is ∙ flight_in-remove fs i x apart within)) (below_without (flight_in fs) n (get_or fs i x).id all)

  pub Answers-listed : (gs : List RequestInFlight) (room room' : ℕ) (work : Work) → HaveOwnIds fs → ((d : RequestInFlight) → (get_or fs i d).stage ≡ Working work) → ((d : RequestInFlight) → gs ≡ set fs i (answered (get_or fs i d)))
      → Answers (requests_of (record { flights = fs; room = room })) id work (requests_of (record { flights = gs; room = room' }))
  unfolding requests_of
  Answers-listed gs room room' work apart working written =
      let x = (alive_at fs i id within found).0 in
      let y : RequestInFlight = answered x in
      let is : gs ≡ set fs i y = written x ∙ ap (λ (f : RequestInFlight). set fs i (answered f)) (read x) in
      let stage : x.stage ≡ Working work = ap (λ (f : RequestInFlight). f.stage) (sym (read x)) ∙ working x in
      let n = sum_by-set (λ (f : RequestInFlight). nodes_promised f.stage) fs i y x within in
      let p = sum_by-set (λ (f : RequestInFlight). postings_promised f.stage) fs i y x within in
      let q = sum_by-set (λ (f : RequestInFlight). files_promised f.stage) fs i y x within in
      rw is (record {
        flight = x;
        here = stood;
        working = stage;
        at = changed y apart id_here;
        pinned = pinned_in-same fs i y within (λ k. ap (λ (f : RequestInFlight). pins_number f k) (sym (read y)));
        many = length-set fs i y;
        nodes = omega (arith, n, ap nodes_promised (working x));
        postings = omega (arith, p, ap postings_promised (working x));
        files = omega (arith, q, ap files_promised (working x));
      })

  -- what is ended, if it was in progress
  pub Answers_ended : (gs : List RequestInFlight) (room room' : ℕ) (o : Option Work) → HaveOwnIds fs → IfSome o (λ work. (d : RequestInFlight) → (get_or fs i d).stage ≡ Working work) → IfSome o (λ _. (d : RequestInFlight) → gs ≡ set fs i (answered (get_or fs i d)))
      → IfSome o (λ work. Answers (requests_of (record { flights = fs; room = room })) id work (requests_of (record { flights = gs; room = room' })))
  Answers_ended gs room room' None apart working written = written
  Answers_ended gs room room' (Some work) apart working written = Answers-listed gs room room' work apart working written

  pub apart_ended : (gs : List RequestInFlight) (o : Option Work) → IfNone o (gs ≡ fs) → IfSome o (λ _. (d : RequestInFlight) → gs ≡ set fs i (answered (get_or fs i d))) → HaveOwnIds fs → HaveOwnIds gs
  apart_ended gs None same written apart = subst HaveOwnIds (sym same) apart
  apart_ended gs (Some work) same written apart = apart_changed gs answered (λ f. refl) written apart

  pub below_ended : (gs : List RequestInFlight) (o : Option Work) → IfNone o (gs ≡ fs) → IfSome o (λ _. (d : RequestInFlight) → gs ≡ set fs i (answered (get_or fs i d))) → HaveOwnIds fs → (n : ℕ) → AreBelow n (flight_in fs) → AreBelow n (flight_in gs)
  below_ended gs None same written apart n all = subst (λ (hs : List RequestInFlight). AreBelow n (flight_in hs)) (sym same) all
  below_ended gs (Some work) same written apart n all = below_changed gs answered (λ f. refl) written apart n all

  pub Notes-listed : (gs : List RequestInFlight) (room room' handle : ℕ) (f : RequestInFlight) → HaveOwnIds fs → flight_in fs id ≡ Some f → ((d : RequestInFlight) → gs ≡ set fs i (opening (get_or fs i d) handle))
      → Notes (requests_of (record { flights = fs; room = room })) id f handle (requests_of (record { flights = gs; room = room' }))
  unfolding requests_of
  Notes-listed gs room room' handle f apart there written =
      let x = (alive_at fs i id within found).0 in
      let same : get_or fs i x ≡ f = read x ∙ same_Some x f (sym stood ∙ there) in
      let y : RequestInFlight = opening (get_or fs i x) handle in
      let s = sum_by-set (λ (g : RequestInFlight). nodes_promised g.stage) fs i y x within in
      let p = sum_by-set (λ (g : RequestInFlight). postings_promised g.stage) fs i y x within in
      let q = sum_by-set (λ (g : RequestInFlight). files_promised g.stage) fs i y x within in
      let st = (get_or fs i x).stage in
      rw (written x) (record {
        at = changed y apart (ap (λ (g : RequestInFlight). g.id) (read x) ∙ id_here) ∙ ap (λ (g : RequestInFlight). with_flight (flight_in fs) id (opening g handle)) same;
        pinned = pinned_in-same fs i y within (λ k. ap (λ (g : RequestInFlight). pins_number g k) (read x ∙ sym (read y)));
        many = length-set fs i y;
        nodes = omega (arith, s, nodes_noted st handle);
        postings = omega (arith, p, postings_noted st handle);
        files = omega (arith, q, files_noted st handle);
      })

  pub PinsMore-listed : (gs : List RequestInFlight) (room room' n : ℕ) (f : RequestInFlight) → HaveOwnIds fs → flight_in fs id ≡ Some f → ((d : RequestInFlight) → gs ≡ set fs i (pinning (get_or fs i d) n))
      → PinsMore (requests_of (record { flights = fs; room = room })) id f n (requests_of (record { flights = gs; room = room' }))
  unfolding requests_of
  PinsMore-listed gs room room' n f apart there written =
      let x = (alive_at fs i id within found).0 in
      let same : get_or fs i x ≡ f = read x ∙ same_Some x f (sym stood ∙ there) in
      let y : RequestInFlight = pinning (get_or fs i x) n in
      let s = sum_by-set (λ (g : RequestInFlight). nodes_promised g.stage) fs i y x within in
      let p = sum_by-set (λ (g : RequestInFlight). postings_promised g.stage) fs i y x within in
      let q = sum_by-set (λ (g : RequestInFlight). files_promised g.stage) fs i y x within in
      rw (written x) (record {
        at = changed y apart (ap (λ (g : RequestInFlight). g.id) (read x) ∙ id_here) ∙ ap (λ (g : RequestInFlight). with_flight (flight_in fs) id (pinning g n)) same;
        pinned = pinned_in-pinning fs i x n within;
        many = length-set fs i y;
        nodes = omega (arith, s);
        postings = omega (arith, p);
        files = omega (arith, q);
      })

  pub Goes-listed : (gs : List RequestInFlight) (room room' : ℕ) (ended : EndedRequest) → HaveOwnIds fs → ((d : RequestInFlight) → (get_or fs i d).stage ≡ Answered ended.before ended.opened) → ((d : RequestInFlight) → (get_or fs i d).pins ≡ ended.pins) → gs ≡ remove fs i
      → Goes (requests_of (record { flights = fs; room = room })) id ended (requests_of (record { flights = gs; room = room' }))
  unfolding requests_of
  Goes-listed gs room room' ended apart stage pins is =
      let x = (alive_at fs i id within found).0 in
      let n = sum_by-remove (λ (f : RequestInFlight). nodes_promised f.stage) fs i x within in
      let p = sum_by-remove (λ (f : RequestInFlight). postings_promised f.stage) fs i x within in
      let q = sum_by-remove (λ (f : RequestInFlight). files_promised f.stage) fs i x within in
      rw is (record {
        flight = x;
        here = stood;
        answered = ap (λ (f : RequestInFlight). f.stage) (sym (read x)) ∙ stage x;
        pins = sym (pins x) ∙ ap (λ (f : RequestInFlight). f.pins) (read x);
        at = flight_in-remove fs i x apart within ∙ ap (without_flight (flight_in fs)) (ap (λ (f : RequestInFlight). f.id) (read x) ∙ id_here);
        pinned = λ k. pinned_in-remove fs i x k within ∙ ap (λ (ps : Pinned). pinned_in (remove fs i) k || list_any (λ m. m == k) ps.numbers) (pins x);
        many = omega (arith, length-remove fs i within);
        nodes = omega (arith, n, ap nodes_promised (stage x));
        postings = omega (arith, p, ap postings_promised (stage x));
        files = omega (arith, q, ap files_promised (stage x));
      })

  -- the request with that id is at the other stage
  pub none_working : ((d : RequestInFlight) → is_working (get_or fs i d).stage ≡ false) → HasNoneWorking (flight_in fs) id
  none_working stage f there = ap (λ (g : RequestInFlight). is_working g.stage) (same_Some f (alive_at fs i id within found).0 (sym there ∙ stood) ∙ sym (read f)) ∙ stage f

  pub none_answered : ((d : RequestInFlight) → is_working (get_or fs i d).stage ≡ true) → HasNoneAnswered (flight_in fs) id
  none_answered stage f there = ap (λ (g : RequestInFlight). is_working g.stage) (same_Some f (alive_at fs i id within found).0 (sym there ∙ stood) ∙ sym (read f)) ∙ stage f

  -- what is removed, if it was answered
  pub Goes_taken : (gs : List RequestInFlight) (room room' : ℕ) (o : Option EndedRequest) → HaveOwnIds fs → IfSome o (λ ended. (d : RequestInFlight) → (get_or fs i d).stage ≡ Answered ended.before ended.opened) → IfSome o (λ ended. (d : RequestInFlight) → (get_or fs i d).pins ≡ ended.pins) → IfSome o (λ _. gs ≡ remove fs i)
      → IfSome o (λ ended. Goes (requests_of (record { flights = fs; room = room })) id ended (requests_of (record { flights = gs; room = room' })))
  Goes_taken gs room room' None apart stage pins is = is
  Goes_taken gs room room' (Some ended) apart stage pins is = Goes-listed gs room room' ended apart stage pins is

pub taken_apart : (fs gs : List RequestInFlight) (i : ℕ) → i < length fs → (o : Option EndedRequest) → HaveOwnIds fs → IfNone o (gs ≡ fs) → IfSome o (λ _. gs ≡ remove fs i) → HaveOwnIds gs
taken_apart fs gs i within None apart same is = subst HaveOwnIds (sym same) apart
taken_apart fs gs i within (Some ps) apart same is = subst HaveOwnIds (sym is) (HaveOwnIds-remove fs i within apart)
