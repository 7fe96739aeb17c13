-- A look-up after a request was added, changed or removed.
use Rattle.std.proofs.Common.{ℕ, ◌+◌, ◌<◌, ◌≤◌, ◌≡◌, ◌≢◌, suc, zero, List, [], ◌∷◌, ◌++◌, Option, Some, None, length, get_or, slice_get, set, drop, drop-cons, add-one, refl, sym, ap, ◌∙◌, subst, arith, ◌⊎◌, inl, inr}
use Rattle.std.specs.List.{remove}
use Rattle.std.proofs.lemmas.Bool.{cases_eq}
use Rattle.std.proofs.lemmas.Option.{none-some, slice_get-get_or}
use Rattle.std.proofs.lemmas.List.{get_or_default, get_or-set_same, get_or-set_other, length-set}
use Rattle.std.proofs.lemmas.List.Edits.{length-remove}
use Rattle.std.proofs.lemmas.List.Quantifiers.{all_pairs_push, all_pairs_remove}
use Rattle.table_requests.specs.declared.data.RequestInFlight.{RequestInFlight}
use Rattle.table_requests.specs.RequestMaps.{RequestsInFlight, with_flight, without_flight}
use Rattle.table_requests.specs.Listed.{flight_in, HaveOwnIds}
use Rattle.table_requests.proofs.ById.{with_same, with_other, with_some, with_swap, with_twice, without_other, without_with, without_swap}

-- the request found under an id has that id
pub flight_in_id : (fs : List RequestInFlight) (n : ℕ) (f : RequestInFlight) → flight_in fs n ≡ Some f → f.id ≡ n
flight_in_id [] n f h = absurd (none-some f h)
flight_in_id (g ∷ gs) n f h = elim (with_some (flight_in gs) g.id g n f h) [
  | inl (e, same) ↦ sym (ap (λ (z : RequestInFlight). z.id) same) ∙ e
  | inr (ne, later) ↦ flight_in_id gs n f later
]

-- no request in the list has the id
none_in : (fs : List RequestInFlight) (n : ℕ) → ((j : ℕ) (d : RequestInFlight) → j < length fs → (get_or fs j d).id ≡ n → ⊥) → flight_in fs n ≡ None
none_in [] n h = refl
none_in (g ∷ gs) n h = with_other (flight_in gs) g.id g n (h 0 g (omega arith)) ∙ none_in gs n (λ j d below. h (suc j) d (omega arith))

-- no id comes twice, seen from a prefix of the list
pub first_apart : (f : RequestInFlight) (fs : List RequestInFlight) → HaveOwnIds (f ∷ fs) → flight_in fs f.id ≡ None
first_apart f fs apart = none_in fs f.id (λ j d below e. apart 0 (suc j) d (omega arith) (omega arith) (sym e))

pub rest_apart : (f : RequestInFlight) (fs : List RequestInFlight) → HaveOwnIds (f ∷ fs) → HaveOwnIds fs
rest_apart f fs apart i j d below within = apart (suc i) (suc j) d (omega arith) (omega arith)

-- a request of the list is found
pub flight_in_some : (fs : List RequestInFlight) (i : ℕ) (d : RequestInFlight) → i < length fs → flight_in fs (get_or fs i d).id ≡ None → ⊥
flight_in_some [] i d within h = absurd (omega arith)
flight_in_some (f ∷ fs) zero d within h = none-some f (sym h ∙ with_same (flight_in fs) f.id f)
flight_in_some (f ∷ fs) (suc i) d within h = elim (cases_eq f.id (get_or fs i d).id) [
  | inl e ↦ none-some f (sym (subst (λ k. flight_in (f ∷ fs) k ≡ None) (sym e) h) ∙ with_same (flight_in fs) f.id f)
  | inr ne ↦ flight_in_some fs i d (omega arith) (sym (with_other (flight_in fs) f.id f (get_or fs i d).id ne) ∙ h)
]

-- the request found under an id is the one at its index
pub flight_in_found : (fs : List RequestInFlight) (i : ℕ) (d : RequestInFlight) → HaveOwnIds fs → i < length fs → flight_in fs (get_or fs i d).id ≡ Some (get_or fs i d)
flight_in_found [] i d apart within = absurd (omega arith)
flight_in_found (f ∷ fs) zero d apart within = with_same (flight_in fs) f.id f
flight_in_found (f ∷ fs) (suc i) d apart within =
    with_other (flight_in fs) f.id f (get_or fs i d).id (λ e. flight_in_some fs i d (omega arith) (ap (flight_in fs) (sym e) ∙ first_apart f fs apart)) ∙ flight_in_found fs i d (rest_apart f fs apart) (omega arith)

-- the index of the request found under an id
pub found_flight : (fs : List RequestInFlight) (n : ℕ) (f : RequestInFlight) → flight_in fs n ≡ Some f → (i : ℕ) × (i < length fs) × ((d : RequestInFlight) → get_or fs i d ≡ f)
found_flight [] n f h = absurd (none-some f h)
found_flight (g ∷ gs) n f h = elim (with_some (flight_in gs) g.id g n f h) [
  | inl (e, same) ↦ (0, omega arith, λ d. same)
  | inr (ne, was) ↦ let it = found_flight gs n f was in (suc it.0, omega (arith, it.1), it.2)
]

-- a request at an index is found under its id
pub alive_at : (fs : List RequestInFlight) (i n : ℕ) → i < length fs → slice_get fs i ≡ flight_in fs n → (f : RequestInFlight) × (flight_in fs n ≡ Some f) × ((d : RequestInFlight) → get_or fs i d ≡ f) × (f.id ≡ n)
alive_at [] i n within found = absurd (omega arith)
alive_at (g ∷ gs) i n within found =
    let f = get_or (g ∷ gs) i g in
    let stood : flight_in (g ∷ gs) n ≡ Some f = sym found ∙ slice_get-get_or (g ∷ gs) i g within in
    (f, stood, λ d. get_or_default (g ∷ gs) i d g within, flight_in_id (g ∷ gs) n f stood)

-- a look-up after a push
pub flight_in-push : (fs : List RequestInFlight) (g : RequestInFlight) → flight_in fs g.id ≡ None → flight_in (fs ++ g ∷ []) ≡ with_flight (flight_in fs) g.id g
flight_in-push [] g h = refl
flight_in-push (f ∷ fs) g h =
    let ne : f.id ≡ g.id → ⊥ = λ e. none-some f (sym (subst (λ k. flight_in (f ∷ fs) k ≡ None) (sym e) h) ∙ with_same (flight_in fs) f.id f) in
    let later : flight_in fs g.id ≡ None = sym (with_other (flight_in fs) f.id f g.id ne) ∙ h in
    ap (λ (at : RequestsInFlight). with_flight at f.id f) (flight_in-push fs g later) ∙ with_swap (flight_in fs) g.id f.id g f (λ e. ne (sym e))

-- a look-up after a write that keeps the id
pub flight_in-set : (fs : List RequestInFlight) (i : ℕ) (g d : RequestInFlight) → HaveOwnIds fs → i < length fs → (get_or fs i d).id ≡ g.id → flight_in (set fs i g) ≡ with_flight (flight_in fs) g.id g
flight_in-set [] i g d apart within same = absurd (omega arith)
flight_in-set (f ∷ fs) zero g d apart within same =
    sym (with_twice (flight_in fs) g.id f g) ∙ ap (λ (k : ℕ). with_flight (with_flight (flight_in fs) k f) g.id g) (sym same)
flight_in-set (f ∷ fs) (suc i) g d apart within same =
    let ne : g.id ≡ f.id → ⊥ = λ e. flight_in_some fs i d (omega arith) (subst (λ k. flight_in fs k ≡ None) (sym (same ∙ e)) (first_apart f fs apart)) in
    ap (λ (at : RequestsInFlight). with_flight at f.id f) (flight_in-set fs i g d (rest_apart f fs apart) (omega arith) same) ∙ with_swap (flight_in fs) g.id f.id g f ne

-- a look-up after a removal
pub flight_in-remove : (fs : List RequestInFlight) (i : ℕ) (d : RequestInFlight) → HaveOwnIds fs → i < length fs → flight_in (remove fs i) ≡ without_flight (flight_in fs) (get_or fs i d).id
flight_in-remove [] i d apart within = absurd (omega arith)
flight_in-remove (f ∷ fs) zero d apart within = sym (without_with (flight_in fs) f.id f (first_apart f fs apart))
flight_in-remove (f ∷ fs) (suc i) d apart within =
    let ne : f.id ≡ (get_or fs i d).id → ⊥ = λ e. flight_in_some fs i d (omega arith) (subst (λ k. flight_in fs k ≡ None) e (first_apart f fs apart)) in
    ap (λ (at : RequestsInFlight). with_flight at f.id f) (flight_in-remove fs i d (rest_apart f fs apart) (omega arith)) ∙ without_swap (flight_in fs) f.id (get_or fs i d).id f ne

-- the ids stay distinct
pub HaveOwnIds-push : (fs : List RequestInFlight) (g : RequestInFlight) → HaveOwnIds fs → flight_in fs g.id ≡ None → HaveOwnIds (fs ++ g ∷ [])
HaveOwnIds-push fs g apart fresh = all_pairs_push (λ (a b : RequestInFlight). a.id ≢ b.id) fs g apart (λ k d within e. flight_in_some fs k d within (ap (flight_in fs) e ∙ fresh))

pub HaveOwnIds-remove : (fs : List RequestInFlight) (i : ℕ) → i < length fs → HaveOwnIds fs → HaveOwnIds (remove fs i)
HaveOwnIds-remove fs i within apart = all_pairs_remove (λ (a b : RequestInFlight). a.id ≢ b.id) fs i within apart

pub HaveOwnIds-set : (fs : List RequestInFlight) (i : ℕ) (g : RequestInFlight) → i < length fs → ((d : RequestInFlight) → (get_or fs i d).id ≡ g.id) → HaveOwnIds fs → HaveOwnIds (set fs i g)
HaveOwnIds-set fs k g within id apart i j d below short e =
    let here : (m : ℕ) → (get_or (set fs k g) m d).id ≡ (get_or fs m d).id = λ m. elim (cases_eq m k) [
      | inl s ↦ ap (λ (a : ℕ). (get_or (set fs k g) a d).id) s ∙ (ap (λ (f : RequestInFlight). f.id) (get_or-set_same fs k g d within) ∙ (sym (id d) ∙ ap (λ (a : ℕ). (get_or fs a d).id) (sym s)))
      | inr ne ↦ ap (λ (f : RequestInFlight). f.id) (get_or-set_other fs k m g d ne)
    ] in
    apart i j d below (omega (arith, short, length-set fs k g)) (sym (here i) ∙ (e ∙ here j))

-- a search from the prefix
pub flight_in-drop_found : (fs : List RequestInFlight) (i : ℕ) (d : RequestInFlight) (n : ℕ) → i < length fs → (get_or fs i d).id ≡ n → flight_in (drop i fs) n ≡ Some (get_or fs i d)
flight_in-drop_found fs i d n within same =
    let here : flight_in (drop i fs) (get_or fs i d).id ≡ Some (get_or fs i d) = rw (drop-cons fs i d within) (with_same (flight_in (drop (suc i) fs)) (get_or fs i d).id (get_or fs i d)) in
    ap (flight_in (drop i fs)) (sym same) ∙ here

pub flight_in-drop_more : (fs : List RequestInFlight) (i : ℕ) (d : RequestInFlight) (n : ℕ) → i < length fs → ((get_or fs i d).id ≡ n → ⊥) → flight_in (drop i fs) n ≡ flight_in (drop (i + 1) fs) n
flight_in-drop_more fs i d n within ne = rw (add-one, drop-cons fs i d within) (with_other (flight_in (drop (suc i) fs)) (get_or fs i d).id (get_or fs i d) n ne)

cases_option : (o : Option RequestInFlight) → (o ≡ None) ⊎ ((f : RequestInFlight) × (o ≡ Some f))
cases_option None = inl refl
cases_option (Some f) = inr (f, refl)

-- there are at least as many requests as ids that are used
pub taken_bound : (n : ℕ) (fs : List RequestInFlight) → HaveOwnIds fs → ((k : ℕ) → k < n → flight_in fs k ≡ None → ⊥) → n ≤ length fs
taken_bound zero fs apart h = omega arith
taken_bound (suc n) fs apart h = elim (cases_option (flight_in fs n)) [
  | inl none ↦ absurd (h n (omega arith) none)
  | inr (f, there) ↦
      let it = found_flight fs n f there in
      let id : (get_or fs it.0 f).id ≡ n = ap (λ (g : RequestInFlight). g.id) (it.2 f) ∙ flight_in_id fs n f there in
      let others : (k : ℕ) → k < n → flight_in (remove fs it.0) k ≡ None → ⊥ = λ k below none.
      h k (omega arith) (sym (ap (λ (at : RequestsInFlight). at k) (flight_in-remove fs it.0 f apart it.1) ∙ without_other (flight_in fs) (get_or fs it.0 f).id k (λ e. let bad : n ≡ k = sym id ∙ e in omega arith)) ∙ none) in
      omega (arith, taken_bound n (remove fs it.0) (HaveOwnIds-remove fs it.0 it.1 apart) others, length-remove fs it.0 it.1)
]

pub taken_here : (fs : List RequestInFlight) (i n : ℕ) → i < length fs → slice_get fs i ≡ flight_in fs n → flight_in fs n ≡ None → ⊥
taken_here fs i n within found none = let it = alive_at fs i n within found in none-some it.0 (sym none ∙ it.1)

pub taken_more : (fs : List RequestInFlight) (n : ℕ) → ((k : ℕ) → k < n → flight_in fs k ≡ None → ⊥) → (flight_in fs n ≡ None → ⊥) → (k : ℕ) → k < n + 1 → flight_in fs k ≡ None → ⊥
taken_more fs n before here k below = elim (cases_eq k n) [
  | inl e ↦ λ none. here (ap (flight_in fs) (sym e) ∙ none)
  | inr ne ↦ before k (omega arith)
]
