-- How many requests hold a path, over each step, and when requests conflict.
use Rattle.std.proofs.Common.{ℕ, ◌+◌, ◌<◌, ◌≤◌, ◌≡◌, ◌⊎◌, ◌&&◌, if◌then◌else◌, cond, Bool, true, List, [], ◌∷◌, ◌++◌, Option, Some, None, IfNone, IfSome, Any, Contains, length, get_or, set, refl, sym, ap, ◌∙◌, subst, inl, inr, arith}
use Rattle.std.specs.Prelude.{count_by, unwrap_or}
use Rattle.std.specs.List.{remove}
use Rattle.std.proofs.lemmas.Bool.{and_parts, cases_Bool, cases_eq, cases_lt, false≢true, lt-ltb, ltb-true}
use Rattle.std.proofs.lemmas.List.Folds.{Any-from_list_any, list_any_at}
use Rattle.std.proofs.lemmas.List.Sums.{sum_by-remove, sum_by-set, sum_by_push}
use Rattle.std.proofs.lemmas.Option.{none-some, same_Some}
use Rattle.paths.specs.Prefixes.{Names, is_prefix}
use Rattle.paths.proofs.PrefixLemmas.{is_prefix-both}
use Rattle.holds.specs.declared.held.Held.{Held}
use Rattle.holds.specs.declared.numbers.Holders.{Holders}
use Rattle.holds.specs.declared.numbers.HoldNumbers.{HoldNumbers}
use Rattle.holds.specs.Conflicts.{Conflict, is_among}
use Rattle.holds.specs.Numbers.{Adds, AreNumbers, IsHeldUp, counted_in, holders_on, no_holders}
use Rattle.holds.proofs.Among.{among_found, contains_read}
use Rattle.holds.proofs.Numbering.{counted_no, counted_yes, none_found}
use Rattle.table_files.proofs.Listing.{any_counted}
use Rattle.table_requests.specs.declared.data.EndedRequest.{EndedRequest}
use Rattle.table_requests.specs.declared.data.RequestInFlight.{RequestInFlight}
use Rattle.table_requests.specs.declared.data.Work.{Work}
use Rattle.table_requests.specs.declared.data.Stage.{Stage}
use Rattle.table_requests.specs.declared.data.Stage.TheVariants.{Working, Answered}
use Rattle.table_requests.specs.declared.held_paths.HeldPaths.{HeldPaths}
use Rattle.table_requests.specs.HeldPaths.{AreHolders, HaveSameHolders, LoseHolder, held_at, held_by, held_under, owned_once, owners_in, shared_once, sharers_in}
use Rattle.table_requests.specs.Listed.{HaveOwnIds, flight_in, requests_of}
use Rattle.table_requests.specs.RequestMaps.{Answers, HasExclusiveHolder, HoldsExclusively, HoldsUp, IsInTheWay, RequestsInFlight, answered, has_exclusive, has_shared, opening, pinning, with_flight, with_opened, without_flight}
use Rattle.table_requests.proofs.ById.{with_other, with_same, without_other, without_same}
use Rattle.table_requests.proofs.InTheWay.{held_up_at, owned_at}
use Rattle.table_requests.proofs.Lookups.{flight_in-push, found_flight}

-- ---- what a request in progress holds

-- only a request in progress holds anything
work_at : (st : Stage) (h : Held) → held_at st ≡ Some h → (work : Work) × (st ≡ Working work) × (work.held ≡ h)
work_at (Working work) h e = (work, refl, same_Some work.held h e)
work_at (Answered before opened) h e = absurd (none-some h e)

-- a request that holds something is found
flight_of : (o : Option RequestInFlight) (h : Held) → held_by o ≡ Some h → (f : RequestInFlight) × (o ≡ Some f) × (held_at f.stage ≡ Some h)
flight_of None h e = absurd (none-some h e)
flight_of (Some f) h e = (f, refl, e)

under_found : (fs : List RequestInFlight) (u : Option ℕ) (h : Held) → held_under fs u ≡ Some h → (id : ℕ) × (f : RequestInFlight) × (flight_in fs id ≡ Some f) × (held_at f.stage ≡ Some h)
under_found fs None h e = absurd (none-some h e)
under_found fs (Some id) h e = let it = flight_of (flight_in fs id) h e in (id, it.0, it.1, it.2)

cases_held : (o : Option Held) → (o ≡ None) ⊎ ((h : Held) × (o ≡ Some h))
cases_held None = inl refl
cases_held (Some h) = inr (h, refl)

-- if each id holds the same, a given id does
under_same : (fs gs : List RequestInFlight) → ((k : ℕ) → held_by (flight_in gs k) ≡ held_by (flight_in fs k)) → (u : Option ℕ) → held_under gs u ≡ held_under fs u
under_same fs gs same None = refl
under_same fs gs same (Some id) = same id

-- a write that does not change what is held
pub under_with : (fs gs : List RequestInFlight) (id : ℕ) (f g : RequestInFlight) → flight_in fs id ≡ Some f → held_at g.stage ≡ held_at f.stage → flight_in gs ≡ with_flight (flight_in fs) id g
    → (k : ℕ) → held_by (flight_in gs k) ≡ held_by (flight_in fs k)
under_with fs gs id f g here same at k = elim (cases_eq id k) [
  | inl e ↦ subst (λ (j : ℕ). held_by (flight_in gs j) ≡ held_by (flight_in fs j)) e
      (ap held_by (ap (λ (a : RequestsInFlight). a id) at ∙ with_same (flight_in fs) id g) ∙ (same ∙ sym (ap held_by here)))
  | inr ne ↦ ap held_by (ap (λ (a : RequestsInFlight). a k) at ∙ with_other (flight_in fs) id g k ne)
]

pub noted_holds : (st : Stage) (handle : ℕ) → held_at (with_opened st handle) ≡ held_at st
noted_holds (Working work) handle = refl
noted_holds (Answered before opened) handle = refl

-- an answered request is removed
pub under_without : (fs gs : List RequestInFlight) (id before : ℕ) (opened : Option ℕ) (f : RequestInFlight) → flight_in fs id ≡ Some f → f.stage ≡ Answered before opened → flight_in gs ≡ without_flight (flight_in fs) id
    → (k : ℕ) → held_by (flight_in gs k) ≡ held_by (flight_in fs k)
under_without fs gs id before opened f here stage at k = elim (cases_eq id k) [
  | inl e ↦ subst (λ (j : ℕ). held_by (flight_in gs j) ≡ held_by (flight_in fs j)) e
      (ap held_by (ap (λ (a : RequestsInFlight). a id) at ∙ without_same (flight_in fs) id) ∙ sym (ap held_by here ∙ ap held_at stage))
  | inr ne ↦ ap held_by (ap (λ (a : RequestsInFlight). a k) at ∙ without_other (flight_in fs) id k ne)
]

-- ---- the numbers over each step

-- if no path is counted, none is held exclusively
pub none_counted : (numbers : HoldNumbers) → AreNumbers numbers → (path : Names) → numbers.paths ≡ 0 → 0 < (holders_on numbers path).exclusive → ⊥
none_counted numbers law path none some =
    let is : holders_on numbers path ≡ no_holders = ap (λ (o : Option Holders). unwrap_or o no_holders) (none_found numbers.by_path (sym law.counted ∙ none) path) in
    let e = ap (λ (h : Holders). h.exclusive) is in
    omega (arith, some, e)

-- no request holds anything
pub holders_none : (numbers : HoldNumbers) → ((path : Names) → holders_on numbers path ≡ no_holders) → AreNumbers numbers → AreHolders (record { numbers = numbers; uncounted = None }) []
holders_none numbers none law = record {
  law = law;
  shared = λ path. let e = ap (λ (h : Holders). h.shared) (none path) in omega (arith, e);
  exclusive = λ path. let e = ap (λ (h : Holders). h.exclusive) (none path) in omega (arith, e);
  there = λ e. refl;
}

-- the numbers are written with the same values
pub holders_same : (held : HeldPaths) (new : HoldNumbers) (fs : List RequestInFlight) → ((path : Names) → holders_on new path ≡ holders_on held.numbers path) → AreNumbers new → AreHolders held fs
    → AreHolders (record { numbers = new; uncounted = held.uncounted }) fs
holders_same held new fs same law told = record {
  law = law;
  shared = λ path. let e = ap (λ (h : Holders). h.shared) (same path) in let was = told.shared path in omega (arith, e, was);
  exclusive = λ path. let e = ap (λ (h : Holders). h.exclusive) (same path) in let was = told.exclusive path in omega (arith, e, was);
  there = told.there;
}

-- a request is added
module _ (held : HeldPaths) (fs : List RequestInFlight) (g : RequestInFlight) (fresh : flight_in fs g.id ≡ None) (told : AreHolders held fs) where
  sharers_more : (path : Names) → sharers_in (fs ++ g ∷ []) path ≡ sharers_in fs path + (if has_shared g.stage path then 1 else 0)
  sharers_more path = sum_by_push (λ (f : RequestInFlight). cond (has_shared f.stage path) 1 0) fs g

  owners_more : (path : Names) → owners_in (fs ++ g ∷ []) path ≡ owners_in fs path + (if has_exclusive g.stage path then 1 else 0)
  owners_more path = sum_by_push (λ (f : RequestInFlight). cond (has_exclusive f.stage path) 1 0) fs g

  -- the uncounted request has another id
  under_still : (u : Option ℕ) → (held_under fs u ≡ None → u ≡ None) → held_under (fs ++ g ∷ []) u ≡ held_under fs u
  under_still None there = refl
  under_still (Some id) there =
      let ne : g.id ≡ id → ⊥ = λ e. none-some id (sym (there (ap held_by (ap (flight_in fs) (sym e) ∙ fresh)))) in
      ap held_by (ap (λ (a : RequestsInFlight). a id) (flight_in-push fs g fresh) ∙ with_other (flight_in fs) g.id g id ne)

  still : held_under (fs ++ g ∷ []) held.uncounted ≡ held_under fs held.uncounted
  still = under_still held.uncounted told.there

  -- the numbers are raised by what the new request holds
  holders_added : (new : HoldNumbers) → AreNumbers new
      → ((path : Names) → (holders_on new path).shared ≡ (holders_on held.numbers path).shared + (if has_shared g.stage path then 1 else 0))
      → ((path : Names) → (holders_on new path).exclusive ≡ (holders_on held.numbers path).exclusive + (if has_exclusive g.stage path then 1 else 0))
      → AreHolders (record { numbers = new; uncounted = held.uncounted }) (fs ++ g ∷ [])
  holders_added new law shared exclusive = record {
    law = law;
    shared = λ path. let was = told.shared path in let now = shared path in let more = sharers_more path in let e = ap (λ (o : Option Held). shared_once o path) still in omega (arith, was, now, more, e);
    exclusive = λ path. let was = told.exclusive path in let now = exclusive path in let more = owners_more path in let e = ap (λ (o : Option Held). owned_once o path) still in omega (arith, was, now, more, e);
    there = λ e. told.there (sym still ∙ e);
  }

  -- the new request is counted
  pub holders_counted : (work : Work) (new : HoldNumbers) → g.stage ≡ Working work → AreNumbers new → Adds held.numbers work.held new → AreHolders (record { numbers = new; uncounted = held.uncounted }) (fs ++ g ∷ [])
  holders_counted work new stage law adds =
      holders_added new law
      (λ path. let e : cond (has_shared g.stage path) 1 0 ≡ counted_in work.held.shared path 1 = ap (λ (st : Stage). cond (has_shared st path) 1 0) stage in let now = adds.shared path in omega (arith, e, now))
      (λ path. let e : cond (has_exclusive g.stage path) 1 0 ≡ counted_in work.held.exclusive path 1 = ap (λ (st : Stage). cond (has_exclusive st path) 1 0) stage in let now = adds.exclusive path in omega (arith, e, now))

  -- the new request is not in progress, and holds nothing
  pub holders_more : (before : ℕ) (opened : Option ℕ) → g.stage ≡ Answered before opened → AreHolders held (fs ++ g ∷ [])
  holders_more before opened stage =
      holders_added held.numbers told.law
      (λ path. let e : ◌≡◌ {A = ℕ} (cond (has_shared g.stage path) 1 0) 0 = ap (λ (st : Stage). cond (has_shared st path) 1 0) stage in omega (arith, e))
      (λ path. let e : ◌≡◌ {A = ℕ} (cond (has_exclusive g.stage path) 1 0) 0 = ap (λ (st : Stage). cond (has_exclusive st path) 1 0) stage in omega (arith, e))

  -- the new request is the uncounted one
  pub holders_noted : (work : Work) → g.stage ≡ Working work → held.uncounted ≡ None → AreHolders (record { numbers = held.numbers; uncounted = Some g.id }) (fs ++ g ∷ [])
  holders_noted work stage nobody =
      let now : held_by (flight_in (fs ++ g ∷ []) g.id) ≡ Some work.held =
      ap held_by (ap (λ (a : RequestsInFlight). a g.id) (flight_in-push fs g fresh) ∙ with_same (flight_in fs) g.id g) ∙ ap held_at stage in
      let before : held_under fs held.uncounted ≡ None = ap (held_under fs) nobody in
      record {
        law = told.law;
        shared = λ path.
            let was = told.shared path in
            let none = ap (λ (o : Option Held). shared_once o path) before in
            let one = ap (λ (o : Option Held). shared_once o path) now in
            let more = sharers_more path in
            let is : cond (has_shared g.stage path) 1 0 ≡ counted_in work.held.shared path 1 = ap (λ (st : Stage). cond (has_shared st path) 1 0) stage in
            omega (arith, was, none, one, more, is);
        exclusive = λ path.
            let was = told.exclusive path in
            let none = ap (λ (o : Option Held). owned_once o path) before in
            let one = ap (λ (o : Option Held). owned_once o path) now in
            let more = owners_more path in
            let is : cond (has_exclusive g.stage path) 1 0 ≡ counted_in work.held.exclusive path 1 = ap (λ (st : Stage). cond (has_exclusive st path) 1 0) stage in
            omega (arith, was, none, one, more, is);
        there = λ e. absurd (none-some work.held (sym e ∙ now));
      }

-- each path has as many holders as before, and each request holds what it held
pub holders_stay : (held : HeldPaths) (fs gs : List RequestInFlight) → HaveSameHolders fs gs → ((k : ℕ) → held_by (flight_in gs k) ≡ held_by (flight_in fs k)) → AreHolders held fs → AreHolders held gs
holders_stay held fs gs same under told =
    let still = under_same fs gs under held.uncounted in
    record {
      law = told.law;
      shared = λ path. let was = told.shared path in let now = same.shared path in let e = ap (λ (o : Option Held). shared_once o path) still in omega (arith, was, now, e);
      exclusive = λ path. let was = told.exclusive path in let now = same.exclusive path in let e = ap (λ (o : Option Held). owned_once o path) still in omega (arith, was, now, e);
      there = λ e. told.there (sym still ∙ e);
    }

pub same_holders : (fs : List RequestInFlight) → HaveSameHolders fs fs
same_holders fs = record { shared = λ path. refl; exclusive = λ path. refl }

-- the work on a request ends
pub holder_lost : (fs gs : List RequestInFlight) (i id room room' : ℕ) → i < length fs → (o : Option Work) → IfSome o (λ work. (d : RequestInFlight) → (get_or fs i d).stage ≡ Working work) → IfSome o (λ _. (d : RequestInFlight) → gs ≡ set fs i (answered (get_or fs i d)))
    → IfSome o (λ work. Answers (requests_of (record { flights = fs; room = room })) id work (requests_of (record { flights = gs; room = room' }))) → (d : RequestInFlight) → IfSome o (λ work. LoseHolder fs id work.held gs)
unfolding requests_of
holder_lost fs gs i id room room' within None working written answers d = working
holder_lost fs gs i id room room' within (Some work) working written answers d = record {
  here = ap held_by answers.here ∙ ap held_at answers.working;
  others = λ k ne. ap held_by (ap (λ (a : RequestsInFlight). a k) answers.at ∙ with_other (flight_in fs) id (answered answers.flight) k ne);
  shared = λ path.
      let s = sum_by-set (λ (f : RequestInFlight). cond (has_shared f.stage path) 1 0) fs i (answered (get_or fs i d)) d within in
      let is = ap (λ (hs : List RequestInFlight). sharers_in hs path) (written d) in
      let was : cond (has_shared (get_or fs i d).stage path) 1 0 ≡ counted_in work.held.shared path 1 = ap (λ (st : Stage). cond (has_shared st path) 1 0) (working d) in
      omega (arith, s, is, was);
  exclusive = λ path.
      let s = sum_by-set (λ (f : RequestInFlight). cond (has_exclusive f.stage path) 1 0) fs i (answered (get_or fs i d)) d within in
      let is = ap (λ (hs : List RequestInFlight). owners_in hs path) (written d) in
      let was : cond (has_exclusive (get_or fs i d).stage path) 1 0 ≡ counted_in work.held.exclusive path 1 = ap (λ (st : Stage). cond (has_exclusive st path) 1 0) (working d) in
      omega (arith, s, is, was);
}

-- a write that does not change what a request holds
holders_set : (fs gs : List RequestInFlight) (i : ℕ) (y d : RequestInFlight) → i < length fs → gs ≡ set fs i y → ((path : Names) → has_shared y.stage path ≡ has_shared (get_or fs i d).stage path) → ((path : Names) → has_exclusive y.stage path ≡ has_exclusive (get_or fs i d).stage path) → HaveSameHolders fs gs
holders_set fs gs i y d within written shared exclusive = record {
  shared = λ path.
      let s = sum_by-set (λ (f : RequestInFlight). cond (has_shared f.stage path) 1 0) fs i y d within in
      let is = ap (λ (hs : List RequestInFlight). sharers_in hs path) written in
      let same : ◌≡◌ {A = ℕ} (cond (has_shared y.stage path) 1 0) (cond (has_shared (get_or fs i d).stage path) 1 0) = ap (λ (b : Bool). cond b 1 0) (shared path) in
      omega (arith, s, is, same);
  exclusive = λ path.
      let s = sum_by-set (λ (f : RequestInFlight). cond (has_exclusive f.stage path) 1 0) fs i y d within in
      let is = ap (λ (hs : List RequestInFlight). owners_in hs path) written in
      let same : ◌≡◌ {A = ℕ} (cond (has_exclusive y.stage path) 1 0) (cond (has_exclusive (get_or fs i d).stage path) 1 0) = ap (λ (b : Bool). cond b 1 0) (exclusive path) in
      omega (arith, s, is, same);
}

pub holders_pinning : (fs gs : List RequestInFlight) (i number : ℕ) → i < length fs → ((d : RequestInFlight) → gs ≡ set fs i (pinning (get_or fs i d) number)) → (d : RequestInFlight) → HaveSameHolders fs gs
holders_pinning fs gs i number within written d = holders_set fs gs i (pinning (get_or fs i d) number) d within (written d) (λ path. refl) (λ path. refl)

shared_noted : (st : Stage) (handle : ℕ) (path : Names) → has_shared (with_opened st handle) path ≡ has_shared st path
shared_noted (Working work) handle path = refl
shared_noted (Answered before opened) handle path = refl

exclusive_noted : (st : Stage) (handle : ℕ) (path : Names) → has_exclusive (with_opened st handle) path ≡ has_exclusive st path
exclusive_noted (Working work) handle path = refl
exclusive_noted (Answered before opened) handle path = refl

pub holders_opening : (fs gs : List RequestInFlight) (i handle : ℕ) → i < length fs → ((d : RequestInFlight) → gs ≡ set fs i (opening (get_or fs i d) handle)) → (d : RequestInFlight) → HaveSameHolders fs gs
holders_opening fs gs i handle within written d = holders_set fs gs i (opening (get_or fs i d) handle) d within (written d) (shared_noted (get_or fs i d).stage handle) (exclusive_noted (get_or fs i d).stage handle)

-- a request is removed if it was answered
pub holders_taken : (fs gs : List RequestInFlight) (i : ℕ) → i < length fs → (o : Option EndedRequest) → IfNone o (gs ≡ fs) → IfSome o (λ ended. (d : RequestInFlight) → (get_or fs i d).stage ≡ Answered ended.before ended.opened) → IfSome o (λ _. gs ≡ remove fs i)
    → (d : RequestInFlight) → HaveSameHolders fs gs
holders_taken fs gs i within None same stage is d = subst (λ (hs : List RequestInFlight). HaveSameHolders fs hs) (sym same) (same_holders fs)
holders_taken fs gs i within (Some ended) same stage is d = record {
  shared = λ path.
      let s = sum_by-remove (λ (f : RequestInFlight). cond (has_shared f.stage path) 1 0) fs i d within in
      let here = ap (λ (hs : List RequestInFlight). sharers_in hs path) is in
      let none : ◌≡◌ {A = ℕ} (cond (has_shared (get_or fs i d).stage path) 1 0) 0 = ap (λ (st : Stage). cond (has_shared st path) 1 0) (stage d) in
      omega (arith, s, here, none);
  exclusive = λ path.
      let s = sum_by-remove (λ (f : RequestInFlight). cond (has_exclusive f.stage path) 1 0) fs i d within in
      let here = ap (λ (hs : List RequestInFlight). owners_in hs path) is in
      let none : ◌≡◌ {A = ℕ} (cond (has_exclusive (get_or fs i d).stage path) 1 0) 0 = ap (λ (st : Stage). cond (has_exclusive st path) 1 0) (stage d) in
      omega (arith, s, here, none);
}

-- ---- paths among those that are held

among_contains : (ps : List Names) (path : Names) → is_among ps path ≡ true → Contains ps path
among_contains ps path h =
    let it = Any-from_list_any (λ (p : Names). is_prefix p path && is_prefix path p) ps h in
    let parts = and_parts (is_prefix it.1 path) (is_prefix path it.1) it.4 in
    contains_read ps it.0 it.1 path it.2 (sym it.3) (is_prefix-both it.1 path parts.0 parts.1)

contains_among : (ps : List Names) (path : Names) → Contains ps path → is_among ps path ≡ true
contains_among ps path h = among_found ps h.0 path path h.1 h.2

some_counted : (test : RequestInFlight → Bool) (fs : List RequestInFlight) → 0 < count_by test fs → Any (λ (f : RequestInFlight). test f ≡ true) fs
some_counted test fs some = Any-from_list_any test fs (sym (any_counted test fs) ∙ lt-ltb 0 (count_by test fs) some)

counted_some : (test : RequestInFlight → Bool) (fs : List RequestInFlight) (i : ℕ) (d : RequestInFlight) → i < length fs → test (get_or fs i d) ≡ true → 0 < count_by test fs
counted_some test fs i d within h = ltb-true 0 (count_by test fs) (any_counted test fs ∙ list_any_at test fs i d within h)

-- what the uncounted request holds counts for at most one
module _ (fs : List RequestInFlight) where
  sharer_there : (u : Option ℕ) (path : Names) → shared_once (held_under fs u) path ≤ sharers_in fs path
  sharer_there u path = elim (cases_held (held_under fs u)) [
    | inl none ↦ let e = ap (λ (o : Option Held). shared_once o path) none in omega (arith, e)
    | inr (h, some) ↦
        let one = ap (λ (o : Option Held). shared_once o path) some in
        elim (cases_Bool (is_among h.shared path)) [
          | inl hit ↦
              let it = under_found fs u h some in
              let by = work_at it.1.stage h it.3 in
              let at = found_flight fs it.0 it.1 it.2 in
              let has : has_shared (get_or fs at.0 it.1).stage path ≡ true =
              ap (λ (f : RequestInFlight). has_shared f.stage path) (at.2 it.1) ∙ (ap (λ (st : Stage). has_shared st path) by.1 ∙ (ap (λ (k : Held). is_among k.shared path) by.2 ∙ hit)) in
              let some_one = counted_some (λ (f : RequestInFlight). has_shared f.stage path) fs at.0 it.1 at.1 has in
              let most = counted_yes h.shared path 1 hit in
              omega (arith, one, most, some_one)
          | inr miss ↦ let no = counted_no h.shared path 1 miss in omega (arith, one, no)
        ]
  ]

  owner_there : (u : Option ℕ) (path : Names) → owned_once (held_under fs u) path ≤ owners_in fs path
  owner_there u path = elim (cases_held (held_under fs u)) [
    | inl none ↦ let e = ap (λ (o : Option Held). owned_once o path) none in omega (arith, e)
    | inr (h, some) ↦
        let one = ap (λ (o : Option Held). owned_once o path) some in
        elim (cases_Bool (is_among h.exclusive path)) [
          | inl hit ↦
              let it = under_found fs u h some in
              let by = work_at it.1.stage h it.3 in
              let at = found_flight fs it.0 it.1 it.2 in
              let has : has_exclusive (get_or fs at.0 it.1).stage path ≡ true =
              ap (λ (f : RequestInFlight). has_exclusive f.stage path) (at.2 it.1) ∙ (ap (λ (st : Stage). has_exclusive st path) by.1 ∙ (ap (λ (k : Held). is_among k.exclusive path) by.2 ∙ hit)) in
              let some_one = counted_some (λ (f : RequestInFlight). has_exclusive f.stage path) fs at.0 it.1 at.1 has in
              let most = counted_yes h.exclusive path 1 hit in
              omega (arith, one, most, some_one)
          | inr miss ↦ let no = counted_no h.exclusive path 1 miss in omega (arith, one, no)
        ]
  ]

-- the work on a request ends
module _ (held : HeldPaths) (fs gs : List RequestInFlight) (id : ℕ) (h : Held) (told : AreHolders held fs) (lost : LoseHolder fs id h gs) where
  under_other : (u : Option ℕ) → (u ≡ Some id → ⊥) → held_under gs u ≡ held_under fs u
  under_other None ne = refl
  under_other (Some k) ne = lost.others k (λ e. ne (ap (λ (n : ℕ). Some n) (sym e)))

  -- what it held is counted, unless it is the uncounted one
  pub sharer_counted : (held.uncounted ≡ Some id → ⊥) → (path : Names) → counted_in h.shared path 1 ≤ (holders_on held.numbers path).shared
  sharer_counted ne path =
      let was = told.shared path in
      let less = lost.shared path in
      let most = sharer_there gs held.uncounted path in
      let e = ap (λ (o : Option Held). shared_once o path) (under_other held.uncounted ne) in
      omega (arith, was, less, most, e)

  pub owner_counted : (held.uncounted ≡ Some id → ⊥) → (path : Names) → counted_in h.exclusive path 1 ≤ (holders_on held.numbers path).exclusive
  owner_counted ne path =
      let was = told.exclusive path in
      let less = lost.exclusive path in
      let most = owner_there gs held.uncounted path in
      let e = ap (λ (o : Option Held). owned_once o path) (under_other held.uncounted ne) in
      omega (arith, was, less, most, e)

  -- what it held is removed from the numbers
  pub holders_dropped : (new : HoldNumbers) → (held.uncounted ≡ Some id → ⊥) → AreNumbers new
      → ((path : Names) → (holders_on held.numbers path).shared ≡ (holders_on new path).shared + counted_in h.shared path 1)
      → ((path : Names) → (holders_on held.numbers path).exclusive ≡ (holders_on new path).exclusive + counted_in h.exclusive path 1)
      → AreHolders (record { numbers = new; uncounted = held.uncounted }) gs
  holders_dropped new ne law shared exclusive =
      let still = under_other held.uncounted ne in
      record {
        law = law;
        shared = λ path. let was = told.shared path in let less = lost.shared path in let now = shared path in let e = ap (λ (o : Option Held). shared_once o path) still in omega (arith, was, less, now, e);
        exclusive = λ path. let was = told.exclusive path in let less = lost.exclusive path in let now = exclusive path in let e = ap (λ (o : Option Held). owned_once o path) still in omega (arith, was, less, now, e);
        there = λ e. told.there (sym still ∙ e);
      }

  -- it is the uncounted one
  pub holders_left : held.uncounted ≡ Some id → AreHolders (record { numbers = held.numbers; uncounted = None }) gs
  holders_left is =
      let here : held_under fs held.uncounted ≡ Some h = ap (held_under fs) is ∙ lost.here in
      record {
        law = told.law;
        shared = λ path. let was = told.shared path in let less = lost.shared path in let e = ap (λ (o : Option Held). shared_once o path) here in omega (arith, was, less, e);
        exclusive = λ path. let was = told.exclusive path in let less = lost.exclusive path in let e = ap (λ (o : Option Held). owned_once o path) here in omega (arith, was, less, e);
        there = λ e. refl;
      }

-- ---- conflicts

module _ (fs : List RequestInFlight) where
  owner_counts : (i : ℕ) (work : Work) (path : Names) → i < length fs → ((d : RequestInFlight) → (get_or fs i d).stage ≡ Working work) → (d : RequestInFlight) → Contains work.held.exclusive path → 0 < owners_in fs path
  owner_counts i work path within at d own =
      counted_some (λ (f : RequestInFlight). has_exclusive f.stage path) fs i d within (ap (λ (st : Stage). has_exclusive st path) (at d) ∙ contains_among work.held.exclusive path own)

  sharer_counts : (i : ℕ) (work : Work) (path : Names) → i < length fs → ((d : RequestInFlight) → (get_or fs i d).stage ≡ Working work) → (d : RequestInFlight) → Contains work.held.shared path → 0 < sharers_in fs path
  sharer_counts i work path within at d own =
      counted_some (λ (f : RequestInFlight). has_shared f.stage path) fs i d within (ap (λ (st : Stage). has_shared st path) (at d) ∙ contains_among work.held.shared path own)

shared_by : (st : Stage) (path : Names) → has_shared st path ≡ true → (work : Work) × (st ≡ Working work) × Contains work.held.shared path
shared_by (Working work) path h = (work, refl, among_contains work.held.shared path h)
shared_by (Answered before opened) path h = absurd (false≢true h)

owned_by : (st : Stage) (path : Names) → has_exclusive st path ≡ true → (work : Work) × (st ≡ Working work) × Contains work.held.exclusive path
owned_by (Working work) path h = (work, refl, among_contains work.held.exclusive path h)
owned_by (Answered before opened) path h = absurd (false≢true h)

module _ (held : HeldPaths) (fs : List RequestInFlight) (apart : HaveOwnIds fs) (told : AreHolders held fs) where
  -- what the uncounted request holds conflicts with this
  abbrev One : (Held → Type 0) → Type 0
  One P = (h : Held) × (held_under fs held.uncounted ≡ Some h) × P h

  some_sharer : (path : Names) → 0 < (holders_on held.numbers path).shared → Any (λ (f : RequestInFlight). has_shared f.stage path ≡ true) fs
  some_sharer path some = let e = told.shared path in some_counted (λ (f : RequestInFlight). has_shared f.stage path) fs (omega (arith, some, e))

  some_owner : (path : Names) → 0 < (holders_on held.numbers path).exclusive → Any (λ (f : RequestInFlight). has_exclusive f.stage path ≡ true) fs
  some_owner path some = let e = told.exclusive path in some_counted (λ (f : RequestInFlight). has_exclusive f.stage path) fs (omega (arith, some, e))

  -- a path that is held has a number, or the uncounted request holds it
  sharer_or : (path : Names) → 0 < sharers_in fs path → (0 < (holders_on held.numbers path).shared) ⊎ One (λ h. Contains h.shared path)
  sharer_or path some = elim (cases_held (held_under fs held.uncounted)) [
    | inl none ↦ let e = ap (λ (o : Option Held). shared_once o path) none in let all = told.shared path in inl (omega (arith, some, e, all))
    | inr (h, is) ↦ elim (cases_Bool (is_among h.shared path)) [
      | inl hit ↦ inr (h, is, among_contains h.shared path hit)
      | inr miss ↦ let e = ap (λ (o : Option Held). shared_once o path) is in let no = counted_no h.shared path 1 miss in let all = told.shared path in inl (omega (arith, some, e, no, all))
    ]
  ]

  owner_or : (path : Names) → 0 < owners_in fs path → (0 < (holders_on held.numbers path).exclusive) ⊎ One (λ h. Contains h.exclusive path)
  owner_or path some = elim (cases_held (held_under fs held.uncounted)) [
    | inl none ↦ let e = ap (λ (o : Option Held). owned_once o path) none in let all = told.exclusive path in inl (omega (arith, some, e, all))
    | inr (h, is) ↦ elim (cases_Bool (is_among h.exclusive path)) [
      | inl hit ↦ inr (h, is, among_contains h.exclusive path hit)
      | inr miss ↦ let e = ap (λ (o : Option Held). owned_once o path) is in let no = counted_no h.exclusive path 1 miss in let all = told.exclusive path in inl (omega (arith, some, e, no, all))
    ]
  ]

  module _ (wanted : Held) where
    -- a request in the list conflicts
    up_by : (j : ℕ) (f : RequestInFlight) → j < length fs → get_or fs j f ≡ f → IsInTheWay f.stage wanted → HoldsUp (flight_in fs) wanted
    up_by j f within e way = held_up_at fs j f wanted apart within (subst (λ (g : RequestInFlight). IsInTheWay g.stage wanted) (sym e) way)

    by_sharer : (path : Names) → Contains wanted.exclusive path → 0 < (holders_on held.numbers path).shared → HoldsUp (flight_in fs) wanted
    by_sharer path own some =
        let it = some_sharer path some in
        let by = shared_by it.1.stage path it.4 in
        up_by it.0 it.1 it.2 it.3 (subst (λ (st : Stage). IsInTheWay st wanted) (sym by.1) (inr (inr (own.0, path, own.1, own.2, by.2))))

    by_owner : (path : Names) → Contains wanted.exclusive path → 0 < (holders_on held.numbers path).exclusive → HoldsUp (flight_in fs) wanted
    by_owner path own some =
        let it = some_owner path some in
        let by = owned_by it.1.stage path it.4 in
        up_by it.0 it.1 it.2 it.3 (subst (λ (st : Stage). IsInTheWay st wanted) (sym by.1) (inr (inl (own.0, path, own.1, own.2, by.2))))

    shared_by_owner : (path : Names) → Contains wanted.shared path → 0 < (holders_on held.numbers path).exclusive → HoldsUp (flight_in fs) wanted
    shared_by_owner path shared some =
        let it = some_owner path some in
        let by = owned_by it.1.stage path it.4 in
        let own = by.2 in
        up_by it.0 it.1 it.2 it.3 (subst (λ (st : Stage). IsInTheWay st wanted) (sym by.1) (inl (inr (own.0, path, own.1, own.2, shared))))

    -- a counted request conflicts
    pub held_up : IsHeldUp held.numbers wanted → HoldsUp (flight_in fs) wanted
    held_up (inl h) = elim (cases_lt 0 (holders_on held.numbers h.1).shared) [
      | inl some ↦ by_sharer h.1 (h.0, h.2, h.3) some
      | inr none ↦ let all = h.4 in by_owner h.1 (h.0, h.2, h.3) (omega (arith, all, none))
    ]
    held_up (inr h) = shared_by_owner h.1 (h.0, h.2, h.3) h.4

    -- the uncounted request conflicts
    pub up_by_one : One (λ h. Conflict h wanted) → HoldsUp (flight_in fs) wanted
    up_by_one one =
        let it = under_found fs held.uncounted one.0 one.1 in
        let by = work_at it.1.stage one.0 it.3 in
        record {
          id = it.0;
          flight = it.1;
          here = it.2;
          conflict = subst (λ (st : Stage). IsInTheWay st wanted) (sym by.1) (subst (λ (h : Held). Conflict h wanted) (sym by.2) one.2);
        }

    stands_in : (i : ℕ) (st : Stage) → i < length fs → ((d : RequestInFlight) → (get_or fs i d).stage ≡ st) → (d : RequestInFlight) → IsInTheWay st wanted → IsHeldUp held.numbers wanted ⊎ One (λ h. Conflict h wanted)
    stands_in i (Answered before opened) within at d way = absurd way
    stands_in i (Working work) within at d (inl (inl o)) = elim (owner_or o.1 (owner_counts fs i work o.1 within at d (o.0, o.2, o.3))) [
      | inl some ↦ inl (inl (o.4.0, o.1, o.4.1, o.4.2, omega (arith, some)))
      | inr (h, is, own) ↦ inr (h, is, inl (inl (own.0, o.1, own.1, own.2, o.4)))
    ]
    stands_in i (Working work) within at d (inl (inr o)) = elim (owner_or o.1 (owner_counts fs i work o.1 within at d (o.0, o.2, o.3))) [
      | inl some ↦ inl (inr (o.4.0, o.1, o.4.1, o.4.2, some))
      | inr (h, is, own) ↦ inr (h, is, inl (inr (own.0, o.1, own.1, own.2, o.4)))
    ]
    stands_in i (Working work) within at d (inr (inl o)) = elim (owner_or o.1 (owner_counts fs i work o.1 within at d o.4)) [
      | inl some ↦ inl (inl (o.0, o.1, o.2, o.3, omega (arith, some)))
      | inr (h, is, own) ↦ inr (h, is, inr (inl (o.0, o.1, o.2, o.3, own)))
    ]
    stands_in i (Working work) within at d (inr (inr o)) = elim (sharer_or o.1 (sharer_counts fs i work o.1 within at d o.4)) [
      | inl some ↦ inl (inl (o.0, o.1, o.2, o.3, omega (arith, some)))
      | inr (h, is, own) ↦ inr (h, is, inr (inr (o.0, o.1, o.2, o.3, own)))
    ]

    -- a conflicting request is counted, or is the uncounted one
    pub up_held : HoldsUp (flight_in fs) wanted → IsHeldUp held.numbers wanted ⊎ One (λ h. Conflict h wanted)
    up_held h =
        let it = found_flight fs h.id h.flight h.here in
        stands_in it.0 h.flight.stage it.1 (λ d. ap (λ (f : RequestInFlight). f.stage) (it.2 d)) h.flight h.conflict

  owned_in : (i : ℕ) (st : Stage) (path : Names) → i < length fs → ((d : RequestInFlight) → (get_or fs i d).stage ≡ st) → (d : RequestInFlight) → HoldsExclusively st path → 0 < owners_in fs path
  owned_in i (Answered before opened) path within at d own = absurd own
  owned_in i (Working work) path within at d own = owner_counts fs i work path within at d own

  -- the path has a number
  pub has_owner : (path : Names) → 0 < (holders_on held.numbers path).exclusive → HasExclusiveHolder (flight_in fs) path
  has_owner path some =
      let it = some_owner path some in
      let by = owned_by it.1.stage path it.4 in
      owned_at fs it.0 it.1 path apart it.2 (subst (λ (f : RequestInFlight). HoldsExclusively f.stage path) (sym it.3) (subst (λ (st : Stage). HoldsExclusively st path) (sym by.1) by.2))

  -- the uncounted request holds it
  pub owned_by_one : (path : Names) → One (λ h. Contains h.exclusive path) → HasExclusiveHolder (flight_in fs) path
  owned_by_one path one =
      let it = under_found fs held.uncounted one.0 one.1 in
      let by = work_at it.1.stage one.0 it.3 in
      record {
        id = it.0;
        flight = it.1;
        here = it.2;
        exclusive = subst (λ (st : Stage). HoldsExclusively st path) (sym by.1) (subst (λ (h : Held). Contains h.exclusive path) (sym by.2) one.2);
      }

  pub owner_has : (path : Names) → HasExclusiveHolder (flight_in fs) path → (0 < (holders_on held.numbers path).exclusive) ⊎ One (λ h. Contains h.exclusive path)
  owner_has path h =
      let it = found_flight fs h.id h.flight h.here in
      owner_or path (owned_in it.0 h.flight.stage path it.1 (λ d. ap (λ (f : RequestInFlight). f.stage) (it.2 d)) h.flight h.exclusive)
