-- How often requests pin a number, and whether they do, over each step.
use Rattle.std.proofs.Common.{ℕ, ◌+◌, ◌-◌, ◌<◌, ◌≡◌, ◌==◌, ◌||◌, Bool, true, false, cond, nat_lt, List, [], ◌∷◌, ◌++◌, Vec, Option, Some, None, IfNone, IfSome, length, get_or, set, refl, sym, ap, ◌∙◌, subst, inl, inr, arith}
use Rattle.std.specs.List.{remove}
use Rattle.std.proofs.lemmas.Bool.{cases_Bool, lt-ltb, ltb-false, ltb-true}
use Rattle.std.proofs.lemmas.List.Sums.{sum_by-cons, sum_by-remove, sum_by-set, sum_by_push}
use Rattle.std.specs.declared.alloc.Global.{Global}
use Rattle.table_files.proofs.Listing.{any_counted}
use Rattle.table_requests.specs.declared.data.EndedRequest.{EndedRequest}
use Rattle.table_requests.specs.declared.data.RequestInFlight.{RequestInFlight}
use Rattle.table_requests.specs.declared.data.Work.{Work}
use Rattle.table_requests.specs.declared.pin_counts.PinCounts.{PinCounts}
use Rattle.table_requests.specs.Listed.{InFlight, in_flight, pinned_in, requests_of}
use Rattle.table_requests.specs.Roomy.{Pinned}
use Rattle.table_requests.specs.PinCounts.{AreCounted, counted_in, pins_in, times}
use Rattle.table_requests.specs.RequestMaps.{answered, opening, pinning, pins_number}
use Rattle.table_requests.proofs.PinCounting.{counts_as, same_totals}

-- a sum is above 0 if one of its two parts is
lt_sum : (a b : ℕ) → nat_lt 0 (a + b) ≡ (nat_lt 0 a || nat_lt 0 b)
lt_sum a b = elim (cases_Bool (nat_lt 0 a)) [
  | inl hit ↦ let more = ltb-true 0 a hit in lt-ltb 0 (a + b) (omega (arith, more)) ∙ sym (ap (λ c. c || nat_lt 0 b) hit)
  | inr miss ↦
      let none = ltb-false 0 a miss in
      let rest : a + b ≡ b = omega (arith, none) in
      ap (nat_lt 0) rest ∙ sym (ap (λ c. c || nat_lt 0 b) miss)
]

-- a number is pinned if it is pinned once or more
pub pinned_counted : (fs : List RequestInFlight) (n : ℕ) → nat_lt 0 (pins_in fs n) ≡ pinned_in fs n
pinned_counted [] n = refl
pinned_counted (f ∷ fs) n =
    ap (nat_lt 0) (sum_by-cons (λ (g : RequestInFlight). times n g.pins.numbers) f fs)
    ∙ (lt_sum (times n f.pins.numbers) (pins_in fs n)
    ∙ (ap (λ c. c || nat_lt 0 (pins_in fs n)) (any_counted (λ m. m == n) f.pins.numbers)
    ∙ ap (λ c. pins_number f n || c) (pinned_counted fs n)))

none_of : (ns : List ℕ) (n : ℕ) → length ns ≡ 0 → times n ns ≡ 0
none_of [] n none = refl
none_of (m ∷ ns) n none = absurd (omega (arith, none))

module _ (fs : List RequestInFlight) (counts : PinCounts) (counted : AreCounted counts (pins_in fs)) (n : ℕ) where
  -- a number that is counted is pinned
  pub pinned_if_counted : 0 < counted_in counts.by_number.items n → pinned_in fs n ≡ true
  pinned_if_counted some = let here = counted.exact n in sym (pinned_counted fs n) ∙ lt-ltb 0 (pins_in fs n) (omega (arith, here, some))

  -- if no pin is loose, a number that is not counted is not pinned
  pub not_pinned : counted_in counts.by_number.items n ≡ 0 → counts.loose ≡ 0 → pinned_in fs n ≡ false
  not_pinned none tight =
      let here = counted.exact n in
      let others = none_of counted.others n (counted.known (omega (arith, tight)) ∙ tight) in
      let all : pins_in fs n ≡ 0 = omega (arith, here, none, others) in
      sym (pinned_counted fs n) ∙ ap (nat_lt 0) all

pub pinned_there : (v : Vec RequestInFlight Global) (all : InFlight) → in_flight v ≡ all → (n : ℕ) (b : Bool) → pinned_in v.items n ≡ b → b ≡ (requests_of all).pinned n
unfolding requests_of
pinned_there v all is n b e = subst (λ (a : InFlight). b ≡ pinned_in a.flights n) is (sym e)

-- the pins of a list after a request was added, changed or removed
pub pins_in-push : (fs : List RequestInFlight) (g : RequestInFlight) (n : ℕ) → pins_in fs n + times n g.pins.numbers ≡ pins_in (fs ++ g ∷ []) n
pins_in-push fs g n = sym (sum_by_push (λ (f : RequestInFlight). times n f.pins.numbers) fs g)

pins_in-answered : (fs gs : List RequestInFlight) (i : ℕ) → i < length fs → ((d : RequestInFlight) → gs ≡ set fs i (answered (get_or fs i d))) → (d : RequestInFlight) → (n : ℕ) → pins_in gs n ≡ pins_in fs n
pins_in-answered fs gs i within written d n =
    let s = sum_by-set (λ (f : RequestInFlight). times n f.pins.numbers) fs i (answered (get_or fs i d)) d within in
    let is = ap (λ (hs : List RequestInFlight). pins_in hs n) (written d) in
    omega (arith, s, is)

pub pins_ended : (fs gs : List RequestInFlight) (i : ℕ) → i < length fs → (o : Option Work) → IfNone o (gs ≡ fs) → IfSome o (λ _. (d : RequestInFlight) → gs ≡ set fs i (answered (get_or fs i d))) → (d : RequestInFlight) → (n : ℕ) → pins_in gs n ≡ pins_in fs n
pins_ended fs gs i within None same written d n = ap (λ (hs : List RequestInFlight). pins_in hs n) same
pins_ended fs gs i within (Some work) same written d n = pins_in-answered fs gs i within written d n

pub pins_in-opening : (fs gs : List RequestInFlight) (i handle : ℕ) → i < length fs → ((d : RequestInFlight) → gs ≡ set fs i (opening (get_or fs i d) handle)) → (d : RequestInFlight) → (n : ℕ) → pins_in gs n ≡ pins_in fs n
pins_in-opening fs gs i handle within written d n =
    let s = sum_by-set (λ (f : RequestInFlight). times n f.pins.numbers) fs i (opening (get_or fs i d) handle) d within in
    let is = ap (λ (hs : List RequestInFlight). pins_in hs n) (written d) in
    omega (arith, s, is)

pub pins_in-pinning : (fs gs : List RequestInFlight) (i number : ℕ) → i < length fs → ((d : RequestInFlight) → gs ≡ set fs i (pinning (get_or fs i d) number)) → (d : RequestInFlight) → (n : ℕ) → pins_in gs n ≡ pins_in fs n + counts_as number n
pins_in-pinning fs gs i number within written d n =
    let f = get_or fs i d in
    let s = sum_by-set (λ (g : RequestInFlight). times n g.pins.numbers) fs i (pinning f number) d within in
    let is = ap (λ (hs : List RequestInFlight). pins_in hs n) (written d) in
    let more = sum_by_push (λ m. cond (m == n) 1 0) f.pins.numbers number in
    omega (arith, s, is, more)

pub pins_in-remove : (fs : List RequestInFlight) (i : ℕ) (d : RequestInFlight) (n : ℕ) → i < length fs → pins_in (remove fs i) n + times n (get_or fs i d).pins.numbers ≡ pins_in fs n
pins_in-remove fs i d n within = sum_by-remove (λ (f : RequestInFlight). times n f.pins.numbers) fs i d within

pub taken_pins : (fs gs : List RequestInFlight) (i : ℕ) (d : RequestInFlight) → i < length fs → (o : Option EndedRequest) → IfSome o (λ ended. (e : RequestInFlight) → (get_or fs i e).pins ≡ ended.pins) → IfSome o (λ _. gs ≡ remove fs i)
    → IfSome o (λ ended. (n : ℕ) → pins_in gs n + times n ended.pins.numbers ≡ pins_in fs n)
taken_pins fs gs i d within None pins is = is
taken_pins fs gs i d within (Some ended) pins is = λ n.
    ap (λ (hs : List RequestInFlight). pins_in hs n + times n ended.pins.numbers) is
    ∙ (ap (λ (p : Pinned). pins_in (remove fs i) n + times n p.numbers) (sym (pins d)) ∙ pins_in-remove fs i d n within)

-- the counts after pins were taken back
pub counted_back : (fs gs : List RequestInFlight) (counts : PinCounts) (ns : List ℕ) → ((n : ℕ) → pins_in gs n + times n ns ≡ pins_in fs n) → AreCounted counts (λ n. pins_in fs n - times n ns) → AreCounted counts (pins_in gs)
counted_back fs gs counts ns less counted = same_totals counts _ (pins_in gs) (λ n. let e = less n in omega (arith, e)) counted
