-- The holders of a path: the requests in flight, in any order, and the records that show them.
use Rattle.std.proofs.Common.{ℕ, ◌+◌, ◌<◌, ◌≡◌, ◌≢◌, suc, zero, Bool, true, false, cond, List, [], ◌∷◌, ◌++◌, Some, All, Contains, length, get_or, take, refl, sym, ap, ◌∙◌, subst, arith, inl, inr}
use Rattle.std.specs.Prelude.{count_by}
use Rattle.std.specs.List.{AllZip, remove}
use Rattle.std.proofs.lemmas.Bool.{cases_Bool}
use Rattle.std.proofs.lemmas.List.{get_or_default, take_more}
use Rattle.std.proofs.lemmas.List.Edits.{length-remove}
use Rattle.std.proofs.lemmas.List.Elements.{All-push}
use Rattle.std.proofs.lemmas.List.Sorted.{IsPermutation-remove, Contains-permutation}
use Rattle.std.proofs.lemmas.List.Sums.{sum_by-cons, sum_by-remove}
use mathlib.Core.Path.{fun_ext}
use Rattle.paths.specs.Prefixes.{Names}
use Rattle.holds.specs.Conflicts.{is_among}
use Rattle.table_requests.specs.declared.data.RequestInFlight.{RequestInFlight}
use Rattle.table_requests.specs.declared.data.Stage as flight
use Rattle.table_requests.specs.declared.data.Stage.TheVariants as flight_stage
use Rattle.table_requests.specs.RequestMaps.{RequestsInFlight, has_exclusive, has_shared}
use Rattle.table_requests.specs.Listed.{InFlight, flight_in, requests_of, HaveOwnIds}
use Rattle.table_requests.proofs.Lookups.{flight_in_found, found_flight}
use Rattle.table_image.specs.declared.data.Hold.{Hold}
use Rattle.table_image.specs.declared.data.Record.{Record}
use Rattle.table_image.specs.ImageLaw.{AreCounts, exclusive_of, holds_exclusively, sharers_of, shares}
use Rattle.table_image.specs.Parts.{IsStored}
use Rattle.table_image.proofs.Counted.{among_contains, contains_among, count_none, count_some, stored_not_absent}
use Rattle.table_image.proofs.Exported.{IsHeldBySome, ListsHeld, Stores}
use Rattle.table.specs.Copies.{IsCopyOf, held_of, exclusive_in_all, sharers_in}

-- ---- the same requests in two orders

abbrev one_if : Bool → ℕ
one_if b = cond b 1 0

-- a list that contains the elements of another one, without the first
contains_cons : {A : Type 0} (x : A) (ys : List A) (y : A) → x ≢ y → Contains (x ∷ ys) y → Contains ys y
contains_cons x ys y other (zero, within, is) = absurd (other is)
contains_cons x ys y other (suc i, within, is) = (i, omega arith, is)

-- lists of the same length, the first without repetitions and with elements of the second, have the same counts
same_counts : (test : RequestInFlight → Bool) (fs gs : List RequestInFlight) → HaveOwnIds fs → length fs ≡ length gs → ((k : ℕ) (d : RequestInFlight) → k < length fs → Contains gs (get_or fs k d)) → count_by test fs ≡ count_by test gs
same_counts test [] [] apart long all = refl
same_counts test [] (g ∷ gs) apart long all = absurd (omega arith)
same_counts test (f ∷ fs) gs apart long all =
    let found = all 0 f (omega arith) in
    let i = found.0 in
    let short = length-remove gs i found.1 in
    let rest : (k : ℕ) (d : RequestInFlight) → k < length fs → Contains (remove gs i) (get_or fs k d) = λ k d within.
    contains_cons f (remove gs i) (get_or fs k d) (λ e. apart 0 (suc k) d (omega arith) (omega arith) (ap (λ (g : RequestInFlight). g.id) e))
    (Contains-permutation gs (f ∷ remove gs i) (get_or fs k d) (IsPermutation-remove gs i f found.1 (sym found.2)) (all (suc k) d (omega arith))) in
    let later = same_counts test fs (remove gs i) (λ j k d before within. apart (suc j) (suc k) d (omega arith) (omega arith)) (omega arith) rest in
    let first : one_if (test (get_or gs i f)) ≡ one_if (test f) = ap (λ (g : RequestInFlight). one_if (test g)) found.2 in
    omega (arith, later, first, sum_by-cons (λ (g : RequestInFlight). one_if (test g)) f fs, sum_by-remove (λ (g : RequestInFlight). one_if (test g)) gs i f found.1)

-- if the same is found under the same ids, the counts are equal
pub counts_same : (test : RequestInFlight → Bool) (fs : List RequestInFlight) (all : InFlight) → HaveOwnIds fs → flight_in fs ≡ (requests_of all).at → length fs ≡ (requests_of all).many → count_by test fs ≡ count_by test all.flights
unfolding requests_of
counts_same test fs all apart at many = same_counts test fs all.flights apart many (λ k d within.
    let here : flight_in fs (get_or fs k d).id ≡ Some (get_or fs k d) = flight_in_found fs k d apart within in
    let there : flight_in all.flights (get_or fs k d).id ≡ Some (get_or fs k d) = sym (ap (λ (l : RequestsInFlight). l (get_or fs k d).id) at) ∙ here in
    let it = found_flight all.flights (get_or fs k d).id (get_or fs k d) there in
    (it.0, it.1, it.2 (get_or fs k d)))

-- ---- what one request holds

pub has_shared-at : (s : flight.Stage) (k : ℕ) (d : Names) → k < length (held_of s).shared → has_shared s (get_or (held_of s).shared k d) ≡ true
has_shared-at (flight_stage.Working work) k d within =
    contains_among work.held.shared (get_or work.held.shared k d) (k, within, get_or_default work.held.shared k (get_or work.held.shared k d) d within)
has_shared-at (flight_stage.Answered before opened) k d within = absurd (omega arith)

pub has_exclusive-at : (s : flight.Stage) (k : ℕ) (d : Names) → k < length (held_of s).exclusive → has_exclusive s (get_or (held_of s).exclusive k d) ≡ true
has_exclusive-at (flight_stage.Working work) k d within =
    contains_among work.held.exclusive (get_or work.held.exclusive k d) (k, within, get_or_default work.held.exclusive k (get_or work.held.exclusive k d) d within)
has_exclusive-at (flight_stage.Answered before opened) k d within = absurd (omega arith)

unshared : (s : flight.Stage) (hs : List Hold) (path : Names) → All (IsStored hs) (held_of s).shared → All (λ (h : Hold). h.path ≢ path) hs → has_shared s path ≡ false
unshared (flight_stage.Working work) hs path stored none = elim (cases_Bool (is_among work.held.shared path)) [
  | inl found ↦
      let it = among_contains work.held.shared path found in
      absurd (stored_not_absent hs path (subst (λ (p : Names). IsStored hs p) it.2 (stored it.0 path it.1)) none)
  | inr other ↦ other
]
unshared (flight_stage.Answered before opened) hs path stored none = refl

unowned : (s : flight.Stage) (hs : List Hold) (path : Names) → All (IsStored hs) (held_of s).exclusive → All (λ (h : Hold). h.path ≢ path) hs → has_exclusive s path ≡ false
unowned (flight_stage.Working work) hs path stored none = elim (cases_Bool (is_among work.held.exclusive path)) [
  | inl found ↦
      let it = among_contains work.held.exclusive path found in
      absurd (stored_not_absent hs path (subst (λ (p : Names). IsStored hs p) it.2 (stored it.0 path it.1)) none)
  | inr other ↦ other
]
unowned (flight_stage.Answered before opened) hs path stored none = refl

-- ---- everything that is held, listed one request after another

-- the paths that the request holds are stored
pub record IsCovered (hs : List Hold) (f : RequestInFlight) : Type 0 where
  pub shared : All (IsStored hs) (held_of f.stage).shared
  pub exclusive : All (IsStored hs) (held_of f.stage).exclusive

abbrev pub AreCovered : List Hold → List RequestInFlight → Type 0
AreCovered hs fs = All (IsCovered hs) fs

pub covered_more : (old new : List Hold) (fs : List RequestInFlight) (i : ℕ) (f : RequestInFlight) → i < length fs → f ≡ get_or fs i f
    → Stores old new (held_of f.stage).shared → Stores old new (held_of f.stage).exclusive → AreCovered old (take i fs) → AreCovered new (take (i + 1) fs)
covered_more old new fs i f within read shared exclusive before =
    let kept : AreCovered new (take i fs) = λ k d inside. record {
      shared = λ j e small. shared.kept (get_or (held_of (get_or (take i fs) k d).stage).shared j e) ((before k d inside).shared j e small);
      exclusive = λ j e small. shared.kept (get_or (held_of (get_or (take i fs) k d).stage).exclusive j e) ((before k d inside).exclusive j e small);
    } in
    let last : IsCovered new f = record { shared = shared.stored; exclusive = exclusive.stored } in
    subst (λ (gs : List RequestInFlight). AreCovered new gs) (sym (take_more fs i f within ∙ ap (λ (g : RequestInFlight). take i fs ++ g ∷ []) (sym read))) (All-push (IsCovered new) (take i fs) f kept last)

-- after all requests were listed, the numbers are those of all paths
pub counts_all : (fs : List RequestInFlight) (all : InFlight) (hs : List Hold) → HaveOwnIds fs → flight_in fs ≡ (requests_of all).at → length fs ≡ (requests_of all).many
    → AreCovered hs fs → ListsHeld (sharers_in all.flights) (exclusive_in_all all.flights) hs → AreCounts (sharers_in all.flights) (exclusive_in_all all.flights) hs
counts_all fs all hs apart at many covered lists = record {
  once = lists.once;
  each = lists.each;
  absent = λ path none. (
    sym (counts_same (λ (f : RequestInFlight). has_shared f.stage path) fs all apart at many) ∙ count_none (λ (f : RequestInFlight). has_shared f.stage path) fs (λ k d within. unshared (get_or fs k d).stage hs path (covered k d within).shared none),
    sym (counts_same (λ (f : RequestInFlight). has_exclusive f.stage path) fs all apart at many) ∙ count_none (λ (f : RequestInFlight). has_exclusive f.stage path) fs (λ k d within. unowned (get_or fs k d).stage hs path (covered k d within).exclusive none),
  );
}

-- what a request holds is held by some request
pub shared_by_some : (fs : List RequestInFlight) (all : InFlight) (i : ℕ) (f : RequestInFlight) → HaveOwnIds fs → flight_in fs ≡ (requests_of all).at → length fs ≡ (requests_of all).many → i < length fs → f ≡ get_or fs i f
    → All (IsHeldBySome (sharers_in all.flights) (exclusive_in_all all.flights)) (held_of f.stage).shared
shared_by_some fs all i f apart at many within read k d inside =
    let path = get_or (held_of f.stage).shared k d in
    let here : has_shared (get_or fs i f).stage path ≡ true = subst (λ (g : RequestInFlight). has_shared g.stage path ≡ true) read (has_shared-at f.stage k d inside) in
    record { some = omega (arith, count_some (λ (g : RequestInFlight). has_shared g.stage path) fs i f within here, counts_same (λ (g : RequestInFlight). has_shared g.stage path) fs all apart at many) }

pub owned_by_some : (fs : List RequestInFlight) (all : InFlight) (i : ℕ) (f : RequestInFlight) → HaveOwnIds fs → flight_in fs ≡ (requests_of all).at → length fs ≡ (requests_of all).many → i < length fs → f ≡ get_or fs i f
    → All (IsHeldBySome (sharers_in all.flights) (exclusive_in_all all.flights)) (held_of f.stage).exclusive
owned_by_some fs all i f apart at many within read k d inside =
    let path = get_or (held_of f.stage).exclusive k d in
    let here : has_exclusive (get_or fs i f).stage path ≡ true = subst (λ (g : RequestInFlight). has_exclusive g.stage path ≡ true) read (has_exclusive-at f.stage k d inside) in
    record { some = omega (arith, count_some (λ (g : RequestInFlight). has_exclusive g.stage path) fs i f within here, counts_same (λ (g : RequestInFlight). has_exclusive g.stage path) fs all apart at many) }

-- ---- records

shares_same : (s : flight.Stage) (f : RequestInFlight) (r : Record) (path : Names) → f.stage ≡ s → IsCopyOf f r → shares r path ≡ has_shared f.stage path
shares_same (flight_stage.Working work) f r path e h = rw (h.stage, h.held, e) refl
shares_same (flight_stage.Answered before opened) f r path e h = rw (h.stage, h.held, e) refl

owns_same : (s : flight.Stage) (f : RequestInFlight) (r : Record) (path : Names) → f.stage ≡ s → IsCopyOf f r → holds_exclusively r path ≡ has_exclusive f.stage path
owns_same (flight_stage.Working work) f r path e h = rw (h.stage, h.held, e) refl
owns_same (flight_stage.Answered before opened) f r path e h = rw (h.stage, h.held, e) refl

zip_counts : (test : Record → Bool) (check : RequestInFlight → Bool) → ((f : RequestInFlight) (r : Record) → IsCopyOf f r → test r ≡ check f) → (fs : List RequestInFlight) (rs : List Record) → AllZip IsCopyOf fs rs → count_by test rs ≡ count_by check fs
zip_counts test check same [] [] zip = refl
zip_counts test check same [] (r ∷ rs) zip = absurd zip
zip_counts test check same (f ∷ fs) [] zip = absurd zip
zip_counts test check same (f ∷ fs) (r ∷ rs) zip =
    let first : one_if (test r) ≡ one_if (check f) = ap one_if (same f r zip.0) in
    omega (arith, first, zip_counts test check same fs rs zip.1, sum_by-cons (λ (g : RequestInFlight). one_if (check g)) f fs, sum_by-cons (λ (q : Record). one_if (test q)) r rs)

-- the records of the requests hold what the requests hold
pub sharers_same : (fs : List RequestInFlight) (rs : List Record) → AllZip IsCopyOf fs rs → sharers_of rs ≡ sharers_in fs
sharers_same fs rs zip = fun_ext (λ path. zip_counts (λ (r : Record). shares r path) (λ (f : RequestInFlight). has_shared f.stage path) (λ f r h. shares_same f.stage f r path refl h) fs rs zip)

pub owners_same : (fs : List RequestInFlight) (rs : List Record) → AllZip IsCopyOf fs rs → exclusive_of rs ≡ exclusive_in_all fs
owners_same fs rs zip = fun_ext (λ path. zip_counts (λ (r : Record). holds_exclusively r path) (λ (f : RequestInFlight). has_exclusive f.stage path) (λ f r h. owns_same f.stage f r path refl h) fs rs zip)
