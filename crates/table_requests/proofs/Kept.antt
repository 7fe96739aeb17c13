-- The pins and totals of a list after a request was added, changed or removed, and the invariant of a list.
use Rattle.std.proofs.Common.{ℕ, ◌-◌, ◌<◌, ◌≡◌, ◌==◌, ◌||◌, suc, zero, Bool, true, false, List, [], ◌∷◌, ◌++◌, Some, Vec, vec_len, vec_capacity, length, get_or, set, refl, sym, ap, ◌∙◌, subst, arith}
use Rattle.std.specs.List.{remove, list_any}
use Rattle.std.proofs.lemmas.List.Folds.{list_any-append, list_any_at, Any-from_list_any}
use Rattle.std.specs.Prelude.{sum_by}
use Rattle.std.proofs.lemmas.List.Sums.{sum_by-cons}
use mathlib.Core.Path.{fun_ext}
use Rattle.collections.specs.Sum.{IsSum}
use Rattle.std.specs.declared.alloc.Global.{Global}
use Rattle.table_requests.specs.declared.data.RequestInFlight.{RequestInFlight}
use Rattle.table_requests.specs.RequestMaps.{files_promised, pins_number, pinning, nodes_promised, postings_promised, AreLawfulRequests, IsTallied}
use Rattle.table_requests.specs.Listed.{flight_in, pinned_in, InFlight, in_flight, requests_of, HaveOwnIds}
use Rattle.table_requests.proofs.ById.{or_none, pins_number-pinning}
use Rattle.table_requests.proofs.Summing.{sum_of_flights}
use Rattle.table_requests.proofs.Lookups.{flight_in_id, flight_in_found, found_flight}

or_assoc : (a b c : Bool) → (a || (b || c)) ≡ ((a || b) || c)
or_assoc true b c = refl
or_assoc false b c = refl

or_later : (a b c : Bool) → ((a || b) || c) ≡ ((a || c) || b)
or_later true b c = refl
or_later false true true = refl
or_later false true false = refl
or_later false false true = refl
or_later false false false = refl

or_comm : (a b : Bool) → (a || b) ≡ (b || a)
or_comm true true = refl
or_comm true false = refl
or_comm false true = refl
or_comm false false = refl

-- an element passes if another did, or for one more reason
list_any-set : {X : Type 0} → (p : X → Bool) (xs : List X) (i : ℕ) (y d : X) (b : Bool) → i < length xs → p y ≡ (p (get_or xs i d) || b) → list_any p (set xs i y) ≡ (list_any p xs || b)
list_any-set p [] i y d b within h = absurd (omega arith)
list_any-set p (x ∷ xs) zero y d b within h = ap (λ c. c || list_any p xs) h ∙ or_later (p x) b (list_any p xs)
list_any-set p (x ∷ xs) (suc i) y d b within h = ap (λ c. p x || c) (list_any-set p xs i y d b (omega arith) h) ∙ or_assoc (p x) (list_any p xs) b

list_any-remove : {X : Type 0} → (p : X → Bool) (xs : List X) (i : ℕ) (d : X) → i < length xs → list_any p xs ≡ (list_any p (remove xs i) || p (get_or xs i d))
list_any-remove p [] i d within = absurd (omega arith)
list_any-remove p (x ∷ xs) zero d within = or_comm (p x) (list_any p xs)
list_any-remove p (x ∷ xs) (suc i) d within = ap (λ c. p x || c) (list_any-remove p xs i d (omega arith)) ∙ or_assoc (p x) (list_any p (remove xs i)) (p (get_or xs i d))

pub pinned_in-push : (fs : List RequestInFlight) (g : RequestInFlight) → pinned_in (fs ++ g ∷ []) ≡ (λ n. pinned_in fs n || pins_number g n)
pinned_in-push fs g = fun_ext (λ n. list_any-append (λ (f : RequestInFlight). pins_number f n) fs (g ∷ []) ∙ ap (λ c. pinned_in fs n || c) (or_none (pins_number g n)))

pub pinned_in-same : (fs : List RequestInFlight) (i : ℕ) (g : RequestInFlight) → i < length fs → ((n : ℕ) → pins_number g n ≡ pins_number (get_or fs i g) n) → pinned_in (set fs i g) ≡ pinned_in fs
pinned_in-same fs i g within same = fun_ext (λ n. list_any-set (λ (f : RequestInFlight). pins_number f n) fs i g g false within (same n ∙ sym (or_none (pins_number (get_or fs i g) n))) ∙ or_none (pinned_in fs n))

pub pinned_in-pinning : (fs : List RequestInFlight) (i : ℕ) (d : RequestInFlight) (n : ℕ) → i < length fs → pinned_in (set fs i (pinning (get_or fs i d) n)) ≡ (λ m. pinned_in fs m || n == m)
pinned_in-pinning fs i d n within = fun_ext (λ m. list_any-set (λ (f : RequestInFlight). pins_number f m) fs i (pinning (get_or fs i d) n) d (n == m) within (pins_number-pinning (get_or fs i d) n m))

pub pinned_in-remove : (fs : List RequestInFlight) (i : ℕ) (d : RequestInFlight) (n : ℕ) → i < length fs → pinned_in fs n ≡ (pinned_in (remove fs i) n || pins_number (get_or fs i d) n)
pinned_in-remove fs i d n within = list_any-remove (λ (f : RequestInFlight). pins_number f n) fs i d within

-- the invariant of a list in which no id comes twice
listed : (fs : List RequestInFlight) (room : ℕ) → HaveOwnIds fs → AreLawfulRequests (requests_of (record { flights = fs; room = room }))
unfolding requests_of
listed fs room apart = record {
  numbered = flight_in_id fs;
  pins = λ n. (
    λ h. let it = Any-from_list_any (λ (f : RequestInFlight). pins_number f n) fs h in
        (it.1.id, it.1, subst (λ (f : RequestInFlight). flight_in fs f.id ≡ Some f) it.3 (flight_in_found fs it.0 it.1 apart it.2), it.4),
    λ h. let it = found_flight fs h.0 h.1 h.2 in
        list_any_at (λ (f : RequestInFlight). pins_number f n) fs it.0 h.1 it.1 (subst (λ (f : RequestInFlight). pins_number f n ≡ true) (sym (it.2 h.1)) h.3),
  );
}

pub IsFlying_kept : (v : Vec RequestInFlight Global) → HaveOwnIds v.items → AreLawfulRequests (requests_of (in_flight v))
IsFlying_kept v apart = listed v.items (vec_capacity v - vec_len v) apart

pub IsFlying_listed : (v : Vec RequestInFlight Global) (all : InFlight) → HaveOwnIds v.items → in_flight v ≡ all → AreLawfulRequests (requests_of all)
IsFlying_listed v all apart is = subst (λ (a : InFlight). AreLawfulRequests (requests_of a)) is (IsFlying_kept v apart)

one_each : (fs : List RequestInFlight) → sum_by (λ (f : RequestInFlight). 1) fs ≡ length fs
one_each [] = refl
one_each (f ∷ fs) = let more = one_each fs in omega (arith, more, sum_by-cons (λ (g : RequestInFlight). 1) f fs)

tallied : (fs : List RequestInFlight) (room : ℕ) → HaveOwnIds fs → IsTallied (requests_of (record { flights = fs; room = room }))
unfolding requests_of
tallied fs room apart = record {
  many = subst (λ n. IsSum (flight_in fs) (λ (f : RequestInFlight). 1) n) (one_each fs) (sum_of_flights fs (λ f. 1) apart);
  nodes = sum_of_flights fs (λ f. nodes_promised f.stage) apart;
  postings = sum_of_flights fs (λ f. postings_promised f.stage) apart;
  files = sum_of_flights fs (λ f. files_promised f.stage) apart;
}

pub IsTallied_listed : (v : Vec RequestInFlight Global) (all : InFlight) → HaveOwnIds v.items → in_flight v ≡ all → IsTallied (requests_of all)
IsTallied_listed v all apart is = subst (λ (a : InFlight). IsTallied (requests_of a)) is (tallied v.items (vec_capacity v - vec_len v) apart)
