-- What a listing has in common with the children from which it is made.
use Rattle.std.proofs.Common.{◌≡◌, ℕ, ◌+◌, ◌==◌, Bool, true, false, not, ◌&&◌, cond, is_none, if◌then◌else◌, List, [], ◌∷◌, Option, Some, None, get_or, refl, sym, ap, ◌∙◌, subst, arith, ◌↔◌, IsTrue, codes, inl, inr}
use Rattle.std.proofs.lemmas.Bool.{true≢false, false≢true, and_parts, cases_Bool, cond-true, cond-false}
use Rattle.std.proofs.lemmas.List.Sums.{sum_by-cons, AllPass-from_list_all, list_all-from_AllPass}
use Rattle.std.proofs.lemmas.List.Elements.{All-filter, filter_passes}
use Rattle.std.proofs.lemmas.List.Kept.{IsStrictlySortedBy-filter}
use Rattle.std.proofs.lemmas.List.Sorted.{All-permutation, sum_by-IsPermutation, IsPermutation-sym}
use Rattle.std.proofs.lemmas.Map.Keys.{IsDistinct-head, IsDistinct-tail, IsDistinct-cons, IsDistinct-from_sorted, IsDistinct-IsPermutation, apart_from_distinct, sorted_from_all_adjacent}
use Rattle.std.specs.Ordering.{eq_by_cmp}
use Rattle.std.specs.List.{filter, list_all, sum_by, AllByRecursion, AllPass, IsDistinct}
use Rattle.std.specs.List.Sorted.{IsPermutation, IsSorted, IsStrictlySortedBy}
use Rattle.paths.specs.Prefixes.{Name, is_name}
use Rattle.paths.proofs.PrefixLemmas.{is_name-true, is_name-yes, is_name-no}
use Rattle.payload.specs.declared.attributes.Kind.{Kind}
use Rattle.payload.specs.declared.attributes.Kind.TheVariants.{Folder, File, Link, Special}
use Rattle.payload.specs.declared.attributes.Special.TheVariants.{Pipe, Socket, Character, Block}
use Rattle.backing.specs.declared.call.Child.{Child}
use Rattle.backing.specs.Calls.{kind_in, EachOnce}
use Rattle.handles.specs.Names.{is_lawful, by_name}
use Rattle.paths.specs.Hidden.{is_reserved}
use Rattle.handles.specs.Listings.{is_each_once, are_lawful, IsInOrder, Shows, folder_at}
use Rattle.handles.proofs.Orders.{by_name_total, same_from_equal, equal_from_same, equal_flips, below_from}

abbrev same : Child → Child → Bool
same a b = eq_by_cmp by_name a b

kind_none : (c : Child) (cs : List Child) (name : Name) → is_name c.name name ≡ false → kind_in (c ∷ cs) name ≡ kind_in cs name
kind_none c cs name e = cond-false (is_name c.name name) (Some c.kind) (kind_in cs name) e

kind_some : (c : Child) (cs : List Child) (name : Name) → is_name c.name name ≡ true → kind_in (c ∷ cs) name ≡ Some c.kind
kind_some c cs name e = cond-true (is_name c.name name) (Some c.kind) (kind_in cs name) e

some_none : (k : Kind) (o : Option Kind) → o ≡ Some k → o ≡ None → ⊥
some_none k o s n = cc

-- no child has x's name, by look-ups and by comparison
absent_from_apart : (x : Child) (cs : List Child) → AllByRecursion (λ (y : Child). same x y ≡ false) cs → kind_in cs x.name ≡ None
absent_from_apart x [] h = refl
absent_from_apart x (c ∷ cs) h =
    kind_none c cs x.name (is_name-no c.name x.name (λ e. true≢false (sym (equal_from_same x c (sym e)) ∙ h.0))) ∙ absent_from_apart x cs h.1

apart_from_absent : (x : Child) (cs : List Child) → kind_in cs x.name ≡ None → AllByRecursion (λ (y : Child). same x y ≡ false) cs
apart_from_absent x [] h = tt
apart_from_absent x (c ∷ cs) h =
    let far : is_name c.name x.name ≡ false = elim (cases_Bool (is_name c.name x.name)) [
      | inl e ↦ absurd (some_none c.kind (kind_in (c ∷ cs) x.name) (kind_some c cs x.name e) h)
      | inr e ↦ e
    ] in
    let differ : same x c ≡ false = elim (cases_Bool (same x c)) [
      | inl e ↦ absurd (true≢false (sym (is_name-yes c.name x.name (sym (same_from_equal x c e))) ∙ far))
      | inr e ↦ e
    ] in
    (differ, apart_from_absent x cs (sym (kind_none c cs x.name far) ∙ h))

once_from_distinct : (cs : List Child) → IsDistinct same cs → EachOnce cs
once_from_distinct [] h = tt
once_from_distinct (c ∷ cs) h = (absent_from_apart c cs (IsDistinct-head same c cs h), once_from_distinct cs (IsDistinct-tail same c cs h))

distinct_from_once : (cs : List Child) → EachOnce cs → IsDistinct same cs
unfolding IsDistinct
distinct_from_once [] h = tt
distinct_from_once (c ∷ cs) h = IsDistinct-cons same c cs (apart_from_absent c cs h.0) (distinct_from_once cs h.1)

rises : (ys : List Child) → IsSorted by_name ys → IsDistinct same ys → IsStrictlySortedBy by_name ys
unfolding IsStrictlySortedBy
rises [] up apart = tt
rises (y ∷ ys) up apart =
    sorted_from_all_adjacent by_name_total (y ∷ ys) y (λ k b. below_from (get_or (y ∷ ys) k y) (get_or (y ∷ ys) (k + 1) y) (up k y (omega arith) b) (apart_from_distinct same (y ∷ ys) k (k + 1) y apart (omega arith) b))

-- Sorted children rise exactly if each name comes once.
pub rises_from_once : (xs ys : List Child) → IsPermutation xs ys → IsSorted by_name ys → EachOnce xs → IsStrictlySortedBy by_name ys
rises_from_once xs ys moved up once = rises ys up (IsDistinct-IsPermutation same equal_flips xs ys moved (distinct_from_once xs once))

once_from_rising : (ys : List Child) → IsStrictlySortedBy by_name ys → EachOnce ys
once_from_rising ys up = once_from_distinct ys (IsDistinct-from_sorted by_name ys up)

pub once_from_rises : (xs ys : List Child) → IsPermutation xs ys → IsStrictlySortedBy by_name ys → EachOnce xs
once_from_rises xs ys moved up = once_from_distinct xs (IsDistinct-IsPermutation same equal_flips ys xs (IsPermutation-sym xs ys moved) (IsDistinct-from_sorted by_name ys up))

-- A kind as two numbers, so that a look-up is two sums, which do not depend on order.
abbrev code : Kind → ℕ
code Folder = 1
code File = 2
code Link = 3
code (Special Pipe) = 4
code (Special Socket) = 5
code (Special (Character number)) = 6
code (Special (Block number)) = 7

abbrev device : Kind → ℕ
device Folder = 0
device File = 0
device Link = 0
device (Special Pipe) = 0
device (Special Socket) = 0
device (Special (Character number)) = number
device (Special (Block number)) = number

abbrev kind_at : (code device : ℕ) → Option Kind
kind_at code device =
    if code == 0 then None else
    if code == 1 then Some Folder else
    if code == 2 then Some File else
    if code == 3 then Some Link else
    if code == 4 then Some (Special Pipe) else
    if code == 5 then Some (Special Socket) else
    if code == 6 then Some (Special (Character device)) else Some (Special (Block device))

abbrev measured : (Kind → ℕ) → Option Kind → ℕ
measured measure None = 0
measured measure (Some kind) = measure kind

abbrev weight : (Kind → ℕ) → Name → Child → ℕ
weight measure name child = cond (is_name child.name name) (measure child.kind) 0

kind_back : (o : Option Kind) → kind_at (measured code o) (measured device o) ≡ o
kind_back None = refl
kind_back (Some Folder) = refl
kind_back (Some File) = refl
kind_back (Some Link) = refl
kind_back (Some (Special Pipe)) = refl
kind_back (Some (Special Socket)) = refl
kind_back (Some (Special (Character number))) = refl
kind_back (Some (Special (Block number))) = refl

kind_from_numbers : (a b : Option Kind) → measured code a ≡ measured code b → measured device a ≡ measured device b → a ≡ b
kind_from_numbers a b codes devices =
    sym (kind_back a) ∙ (ap (λ (n : ℕ). kind_at n (measured device a)) codes ∙ (ap (λ (n : ℕ). kind_at (measured code b) n) devices ∙ kind_back b))

weighs : (measure : Kind → ℕ) (name : Name) (cs : List Child) → EachOnce cs → sum_by (weight measure name) cs ≡ measured measure (kind_in cs name)
weighs measure name [] once = refl
weighs measure name (c ∷ cs) once = elim (cases_Bool (is_name c.name name)) [
  | inl e ↦
      let absent : kind_in cs name ≡ None = subst (λ (n : Name). kind_in cs n ≡ None) (is_name-true c.name name e) once.0 in
      let rest : sum_by (weight measure name) cs ≡ 0 = weighs measure name cs once.1 ∙ ap (measured measure) absent in
      let own : weight measure name c ≡ measure c.kind = cond-true (is_name c.name name) (measure c.kind) 0 e in
      let whole : sum_by (weight measure name) (c ∷ cs) ≡ measure c.kind = omega (arith, sum_by-cons (weight measure name) c cs, rest, own) in
      whole ∙ sym (ap (measured measure) (kind_some c cs name e))
  | inr e ↦
      let own : weight measure name c ≡ 0 = cond-false (is_name c.name name) (measure c.kind) 0 e in
      let whole : sum_by (weight measure name) (c ∷ cs) ≡ sum_by (weight measure name) cs = omega (arith, sum_by-cons (weight measure name) c cs, own) in
      whole ∙ (weighs measure name cs once.1 ∙ sym (ap (measured measure) (kind_none c cs name e)))
]

same_by : (measure : Kind → ℕ) (xs ys : List Child) → IsPermutation xs ys → EachOnce xs → EachOnce ys → (name : Name) → measured measure (kind_in ys name) ≡ measured measure (kind_in xs name)
same_by measure xs ys moved one two name = sym (weighs measure name ys two) ∙ (sum_by-IsPermutation (weight measure name) xs ys moved ∙ weighs measure name xs one)

-- Order does not matter to look-ups if each name comes once.
pub same_kinds : (xs ys : List Child) → IsPermutation xs ys → EachOnce xs → EachOnce ys → (name : Name) → kind_in ys name ≡ kind_in xs name
same_kinds xs ys moved one two name =
    kind_from_numbers (kind_in ys name) (kind_in xs name) (same_by code xs ys moved one two name) (same_by device xs ys moved one two name)

abbrev pub shown : Child → Bool
shown child = not (is_reserved child.name)

hidden : (b : Bool) (o : Option Kind) → b ≡ true → (if b then None else o) ≡ None
hidden b o e = cond-true b None o e

seen : (b : Bool) (o : Option Kind) → b ≡ false → (if b then None else o) ≡ o
seen b o e = cond-false b None o e

kept : (c : Child) (cs : List Child) → is_reserved c.name ≡ false → filter shown (c ∷ cs) ≡ c ∷ filter shown cs
kept c cs e = cond-true (shown c) (c ∷ filter shown cs) (filter shown cs) (ap not e)

left_out : (c : Child) (cs : List Child) → is_reserved c.name ≡ true → filter shown (c ∷ cs) ≡ filter shown cs
left_out c cs e = cond-false (shown c) (c ∷ filter shown cs) (filter shown cs) (ap not e)

-- the kinds without the reserved names
pub kinds_shown : (cs : List Child) (name : Name) → kind_in (filter shown cs) name ≡ (if is_reserved name then None else kind_in cs name)
kinds_shown [] name = elim (cases_Bool (is_reserved name)) [
  | inl e ↦ sym (hidden (is_reserved name) None e)
  | inr e ↦ sym (seen (is_reserved name) None e)
]
kinds_shown (c ∷ cs) name = elim (cases_Bool (is_reserved c.name)) [
  | inl r ↦
      let less : kind_in (filter shown (c ∷ cs)) name ≡ kind_in (filter shown cs) name = ap (λ (ds : List Child). kind_in ds name) (left_out c cs r) in
      (elim (cases_Bool (is_name c.name name)) [
        | inl e ↦
            let reserved : is_reserved name ≡ true = subst (λ (n : Name). is_reserved n ≡ true) (is_name-true c.name name e) r in
            less ∙ (kinds_shown cs name ∙ (hidden (is_reserved name) (kind_in cs name) reserved ∙ sym (hidden (is_reserved name) (kind_in (c ∷ cs) name) reserved)))
        | inr e ↦ less ∙ (kinds_shown cs name ∙ ap (λ (o : Option Kind). if is_reserved name then None else o) (sym (kind_none c cs name e)))
      ])
  | inr r ↦
      let all : kind_in (filter shown (c ∷ cs)) name ≡ kind_in (c ∷ filter shown cs) name = ap (λ (ds : List Child). kind_in ds name) (kept c cs r) in
      (elim (cases_Bool (is_name c.name name)) [
        | inl e ↦
            let free : is_reserved name ≡ false = subst (λ (n : Name). is_reserved n ≡ false) (is_name-true c.name name e) r in
            all ∙ (kind_some c (filter shown cs) name e ∙ (sym (kind_some c cs name e) ∙ sym (seen (is_reserved name) (kind_in (c ∷ cs) name) free)))
        | inr e ↦ all ∙ (kind_none c (filter shown cs) name e ∙ (kinds_shown cs name ∙ ap (λ (o : Option Kind). if is_reserved name then None else o) (sym (kind_none c cs name e))))
      ])
]

and_true : (x y : Bool) → x ≡ true → y ≡ true → (x && y) ≡ true
and_true x y a b = ap (λ (t : Bool). t && y) a ∙ b

-- the test whether each name comes once decides it
once_by_test : (cs : List Child) → is_each_once cs ≡ true → EachOnce cs
once_by_test [] h = tt
once_by_test (c ∷ cs) h =
    let parts = and_parts (is_none (kind_in cs c.name)) (is_each_once cs) h in
    (absent (kind_in cs c.name) parts.0, once_by_test cs parts.1)
  where
    absent : (o : Option Kind) → is_none o ≡ true → o ≡ None
    absent None e = refl
    absent (Some kind) e = absurd (false≢true e)

test_by_once : (cs : List Child) → EachOnce cs → is_each_once cs ≡ true
test_by_once [] h = refl
test_by_once (c ∷ cs) h = and_true (is_none (kind_in cs c.name)) (is_each_once cs) (ap is_none h.0) (test_by_once cs h.1)

abbrev lawful : Child → Bool
lawful child = is_lawful child.name

once_of : (cs : List Child) → are_lawful cs ≡ true → EachOnce cs
once_of cs h = once_by_test cs (and_parts (list_all lawful cs) (is_each_once cs) h).1

pub lawless_name : (cs : List Child) (b : Bool) → (IsTrue b ↔ AllPass lawful cs) → b ≡ false → are_lawful cs ≡ false
lawless_name cs b tells out = elim (cases_Bool (are_lawful cs)) [
  | inl h ↦ absurd (true≢false (sym (tells.1 (AllPass-from_list_all lawful cs (and_parts (list_all lawful cs) (is_each_once cs) h).0)) ∙ out))
  | inr h ↦ h
]

pub lawful_once : (xs ys zs : List Child) (b : Bool) → xs ≡ zs → IsPermutation xs ys → IsSorted by_name ys → (IsTrue b ↔ IsStrictlySortedBy by_name ys) → b ≡ false → are_lawful zs ≡ false
lawful_once xs ys zs b is moved up tells out = elim (cases_Bool (are_lawful zs)) [
  | inl h ↦
      let rising : IsStrictlySortedBy by_name ys = rises_from_once xs ys moved up (subst EachOnce (sym is) (once_of zs h)) in
      absurd (true≢false (sym (tells.1 rising) ∙ out))
  | inr h ↦ h
]

pub ordered : (xs ys zs : List Child) → xs ≡ zs → AllPass lawful xs → IsPermutation xs ys → IsStrictlySortedBy by_name ys → IsInOrder zs ys
ordered xs ys zs is names moved up = subst (λ (cs : List Child). IsInOrder cs ys) is (record {
  lawful = and_true (list_all lawful xs) (is_each_once xs) (list_all-from_AllPass lawful xs names) (test_by_once xs (once_from_rises xs ys moved up));
  moved = moved;
  rising = up;
})

-- the listing of children that are sorted
pub listed : (xs ys entries : List Child) → IsInOrder xs ys → entries ≡ folder_at (codes ".") ∷ folder_at (codes "..") ∷ filter shown ys → Shows xs entries
listed xs ys entries o is = record {
  listing = record {
    names = filter shown ys;
    dots = is;
    lawful = All-filter shown (λ (c : Child). lawful c ≡ true) ys (All-permutation (λ (c : Child). lawful c ≡ true) xs ys o.moved (AllPass-from_list_all lawful xs (and_parts (list_all lawful xs) (is_each_once xs) o.lawful).0));
    shown = filter_passes shown ys;
    rising = IsStrictlySortedBy-filter by_name shown ys o.rising;
  };
  same = λ name. kinds_shown ys name ∙ ap (λ (k : Option Kind). if is_reserved name then None else k) (same_kinds xs ys o.moved (once_of xs o.lawful) (once_from_rising ys o.rising) name);
}
