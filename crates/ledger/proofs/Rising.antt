-- The births of all numbers, as a list sorted by number.
use Rattle.std.proofs.Common.{ℕ, ◌+◌, ◌-◌, ◌≡◌, ◌≢◌, ◌==◌, ◌<◌, ◌≤◌, cond, List, All, get_or, length, set, refl, sym, ap, ◌∙◌, inl, inr, arith}
use Rattle.std.specs.Prelude.{nat_eq, sum_by, Result, Ok, Err}
use Rattle.std.specs.List.{insert}
use Rattle.std.specs.List.Sorted.{IsBinarySearchResult, IsNonDecreasingBy, IsPartitionPoint, IsSearchInRange}
use Rattle.std.specs.Ordering.{nat_cmp, ordering_index}
use Rattle.std.specs.Cmp.{nat_cmp_is}
use Rattle.std.specs.declared.cmp.Ordering.{Ordering}
use Rattle.std.specs.declared.cmp.Ordering.TheVariants.{Less, Equal, Greater}
use Rattle.std.proofs.lemmas.Bool.{cases_eq, cases_lt, eq-eqb, ne_eqb}
use Rattle.std.proofs.lemmas.List.{get_or_default, get_or-set_other, get_or-set_same, length-set}
use Rattle.std.proofs.lemmas.List.Edits.{get_or-insert_above, get_or-insert_at, get_or-insert_below, length-insert}
use Rattle.std.proofs.lemmas.List.Sums.{sum_by-insert, sum_by-le, sum_by-set}
use Rattle.ledger.specs.declared.births.KeptBirths.{KeptBirths}
use Rattle.ledger.specs.Births.{IsPlaceOf, IsRising}
use Rattle.ledger.specs.Sums.{births_closed}

-- how many births of the number this entry counts
abbrev births_by : ℕ → KeptBirths → ℕ
births_by n b = cond (b.number == n) b.count 0

of_another : (n : ℕ) (b : KeptBirths) → b.number ≢ n → births_by n b ≡ 0
of_another n b other = rw (ne_eqb b.number n other) refl

of_itself : (n : ℕ) (b : KeptBirths) → b.number ≡ n → births_by n b ≡ b.count
of_itself n b same = rw (eq-eqb b.number n same) refl

closed_without : (n : ℕ) (bs : List KeptBirths) → All (λ (b : KeptBirths). births_by n b ≤ 0) bs → births_closed n bs ≡ 0
closed_without n bs none = let few = sum_by-le (births_by n) 0 bs none in omega (arith, few)

-- a number that would be inserted was not born
pub closed_nowhere : (n : ℕ) (bs : List KeptBirths) (i : ℕ) → IsPartitionPoint (λ (b : KeptBirths). b.number < n) (λ (b : KeptBirths). n < b.number) bs i → births_closed n bs ≡ 0
closed_nowhere n bs i (below, above) = closed_without n bs (λ k d within. elim (cases_lt k i) [
  | inl before ↦ let less = below k d (omega arith) before in rw (of_another n (get_or bs k d) (λ e. absurd (omega (arith, e, less)))) (omega arith)
  | inr after ↦ let more = above k d after within in rw (of_another n (get_or bs k d) (λ e. absurd (omega (arith, e, more)))) (omega arith)
])

-- the births of a number are at its index
pub closed_at : (n : ℕ) (bs : List KeptBirths) (i : ℕ) (d : KeptBirths) → IsRising bs → i < length bs → (get_or bs i d).number ≡ n → births_closed n bs ≡ (get_or bs i d).count
closed_at n bs i d rising within here =
    let nothing : KeptBirths = record { number = n; count = 0 } in
    let long = length-set bs i nothing in
    let number : (e : KeptBirths) → (get_or bs i e).number ≡ (get_or bs i d).number = λ e. ap (λ (b : KeptBirths). b.number) (get_or_default bs i e d within) in
    let none : births_closed n (set bs i nothing) ≡ 0 = closed_without n (set bs i nothing) (λ k e inside. elim (cases_eq k i) [
      | inl same ↦ rw (same, get_or-set_same bs i nothing e within, of_itself n nothing refl) (omega arith)
      | inr other ↦ rw (get_or-set_other bs i k nothing e other) (elim (cases_lt k i) [
        | inl before ↦ let less = rising k i e before within in rw (of_another n (get_or bs k e) (λ at. absurd (omega (arith, at, less, here, number e)))) (omega arith)
        | inr after ↦ let more = rising i k e (omega arith) (omega arith) in rw (of_another n (get_or bs k e) (λ at. absurd (omega (arith, at, more, here, number e)))) (omega arith)
      ])
    ]) in
    let change = sum_by-set (births_by n) bs i nothing d within in
    let was = of_itself n (get_or bs i d) here in
    let is = of_itself n nothing refl in
    omega (arith, none, change, was, is)

-- one more birth at the index of the number
pub raised_at : (m n : ℕ) (bs : List KeptBirths) (i : ℕ) (old : KeptBirths) → i < length bs → old ≡ get_or bs i old → old.number ≡ n
    → births_closed m (set bs i (record { number = old.number; count = old.count + 1 })) ≡ births_closed m bs + cond (nat_eq n m) 1 0
raised_at m n bs i old within there here =
    let new : KeptBirths = record { number = old.number; count = old.count + 1 } in
    let change = sum_by-set (births_by m) bs i new old within in
    let at : births_by m (get_or bs i old) ≡ births_by m old = ap (births_by m) (sym there) in
    elim (cases_eq old.number m) [
      | inl same ↦ let was = of_itself m old same in let is = of_itself m new same in let one : ◌≡◌ {A = ℕ} (cond (nat_eq n m) 1 0) 1 = rw (eq-eqb n m (sym here ∙ same)) refl in omega (arith, change, at, was, is, one)
      | inr other ↦ let was = of_another m old other in let is = of_another m new other in let none : ◌≡◌ {A = ℕ} (cond (nat_eq n m) 1 0) 0 = rw (ne_eqb n m (λ same. other (here ∙ same))) refl in omega (arith, change, at, was, is, none)
    ]

-- the first birth of a number
pub raised_new : (m n : ℕ) (bs : List KeptBirths) (i : ℕ)
    → births_closed m (insert bs i (record { number = n; count = 1 })) ≡ births_closed m bs + cond (nat_eq n m) 1 0
raised_new m n bs i = sum_by-insert (births_by m) bs i (record { number = n; count = 1 })

-- the list stays sorted if only a count changes
pub rising_set : (bs : List KeptBirths) (i count : ℕ) (old : KeptBirths) → IsRising bs → i < length bs → old ≡ get_or bs i old → IsRising (set bs i (record { number = old.number; count = count }))
rising_set bs i count old rising within there = λ j k e before inside.
    let new : KeptBirths = record { number = old.number; count = count } in
    let long = length-set bs i new in
    let same : (l : ℕ) → l < length bs → (get_or (set bs i new) l e).number ≡ (get_or bs l e).number = λ l inner. elim (cases_eq l i) [
      | inl is ↦ rw (is, get_or-set_same bs i new e within) (ap (λ (b : KeptBirths). b.number) (there ∙ get_or_default bs i old e within))
      | inr other ↦ ap (λ (b : KeptBirths). b.number) (get_or-set_other bs i l new e other)
    ] in
    let less = rising j k e before (omega (arith, inside, long)) in
    omega (arith, same j (omega (arith, inside, long, before)), same k (omega (arith, inside, long)), less)

-- the sum of all births
pub more_at : (bs : List KeptBirths) (i : ℕ) (old : KeptBirths) → i < length bs → old ≡ get_or bs i old
    → sum_by (λ (b : KeptBirths). b.count) (set bs i (record { number = old.number; count = old.count + 1 })) ≡ sum_by (λ (b : KeptBirths). b.count) bs + 1
more_at bs i old within there =
    let change = sum_by-set (λ (b : KeptBirths). b.count) bs i (record { number = old.number; count = old.count + 1 }) old within in
    omega (arith, change, ap (λ (b : KeptBirths). b.count) there)

pub more_new : (bs : List KeptBirths) (i n : ℕ) → sum_by (λ (b : KeptBirths). b.count) (insert bs i (record { number = n; count = 1 })) ≡ sum_by (λ (b : KeptBirths). b.count) bs + 1
more_new bs i n = sum_by-insert (λ (b : KeptBirths). b.count) bs i (record { number = n; count = 1 })

-- the list stays sorted if a number is inserted at its place
pub rising_insert : (bs : List KeptBirths) (i : ℕ) (b : KeptBirths) → IsRising bs → i ≤ length bs → IsPartitionPoint (λ (c : KeptBirths). c.number < b.number) (λ (c : KeptBirths). b.number < c.number) bs i → IsRising (insert bs i b)
rising_insert bs i b rising within (below, above) = λ j k e before inside.
    let long = length-insert bs i b within in
    elim (cases_lt j i) [
      | inl first ↦ rw (get_or-insert_below bs i b e j first within) (elim (cases_lt k i) [
        | inl both ↦ rw (get_or-insert_below bs i b e k both within) (rising j k e before (omega (arith, both, within)))
        | inr later ↦ elim (cases_eq k i) [
          | inl here ↦ rw (here, get_or-insert_at bs i b e within) (below j e (omega arith) first)
          | inr past ↦
              let back : k - 1 + 1 ≡ k = omega (arith, later, past) in
              rw (← back, get_or-insert_above bs i b e (k - 1) (omega (arith, later, past)) within) (rising j (k - 1) e (omega (arith, first, later, past)) (omega (arith, inside, long, before)))
        ]
      ])
      | inr late ↦
          let back : k - 1 + 1 ≡ k = omega (arith, before) in
          rw (← back, get_or-insert_above bs i b e (k - 1) (omega (arith, before, late)) within) (elim (cases_eq j i) [
            | inl here ↦ rw (here, get_or-insert_at bs i b e within) (above (k - 1) e (omega (arith, before, late)) (omega (arith, inside, long, before)))
            | inr past ↦
                let behind : j - 1 + 1 ≡ j = omega (arith, late, past) in
                rw (← behind, get_or-insert_above bs i b e (j - 1) (omega (arith, late, past)) within) (rising (j - 1) (k - 1) e (omega (arith, before, late, past)) (omega (arith, inside, long, before)))
          ])
    ]

-- what a binary search by number requires of the list
most : (o : Ordering) → ordering_index o ≤ 2
most Less = omega arith
most Equal = omega arith
most Greater = omega arith

is_equal : (a n : ℕ) → nat_cmp a n ≡ Equal → a ≡ n
is_equal a n e = elim (cases_lt a n) [
  | inl less ↦ let i : 0 ≡ 1 = ap ordering_index (nat_cmp_is a n Less less ∙ e) in absurd (omega (arith, i))
  | inr least ↦ elim (cases_eq a n) [
    | inl same ↦ same
    | inr other ↦ let i : 2 ≡ 1 = ap ordering_index (nat_cmp_is a n Greater (omega (arith, least, other)) ∙ e) in absurd (omega (arith, i))
  ]
]

is_less : (a n : ℕ) → nat_cmp a n ≡ Less → a < n
is_less a n e = elim (cases_lt a n) [
  | inl less ↦ less
  | inr least ↦ elim (cases_eq a n) [
    | inl same ↦ let i : 1 ≡ 0 = ap ordering_index (nat_cmp_is a n Equal same ∙ e) in absurd (omega (arith, i))
    | inr other ↦ let i : 2 ≡ 0 = ap ordering_index (nat_cmp_is a n Greater (omega (arith, least, other)) ∙ e) in absurd (omega (arith, i))
  ]
]

is_greater : (a n : ℕ) → nat_cmp a n ≡ Greater → n < a
is_greater a n e = elim (cases_lt n a) [
  | inl more ↦ more
  | inr most ↦ elim (cases_eq a n) [
    | inl same ↦ let i : 1 ≡ 2 = ap ordering_index (nat_cmp_is a n Equal same ∙ e) in absurd (omega (arith, i))
    | inr other ↦ let i : 0 ≡ 2 = ap ordering_index (nat_cmp_is a n Less (omega (arith, most, other)) ∙ e) in absurd (omega (arith, i))
  ]
]

rises : (a b n : ℕ) → a ≤ b → ordering_index (nat_cmp a n) ≤ ordering_index (nat_cmp b n)
rises a b n up = elim (cases_lt a n) [
  | inl less ↦ rw (← nat_cmp_is a n Less less) (omega arith)
  | inr least ↦ elim (cases_eq b n) [
    | inl same ↦ rw (← nat_cmp_is a n Equal (omega (arith, up, least, same)), ← nat_cmp_is b n Equal same) (omega arith)
    | inr other ↦ rw (← nat_cmp_is b n Greater (omega (arith, up, least, other))) (most (nat_cmp a n))
  ]
]

rises_by : (n : ℕ) (bs : List KeptBirths) → IsRising bs → IsNonDecreasingBy (λ (b : KeptBirths). ordering_index (nat_cmp b.number n)) bs
rises_by n bs rising = λ i j d before within. elim (cases_eq i j) [
  | inl same ↦ rw same (omega arith)
  | inr other ↦ let less = rising i j d (omega (arith, before, other)) within in rises (get_or bs i d).number (get_or bs j d).number n (omega (arith, less))
]

-- the result of a search
pub place_found : (n : ℕ) (bs : List KeptBirths) (r : Result ℕ ℕ) → IsRising bs → IsSearchInRange r (length bs) → IsBinarySearchResult (λ (b : KeptBirths). nat_cmp b.number n) bs r → IsPlaceOf bs n r
place_found n bs (Ok i) rising within here = (within, λ d. is_equal (get_or bs i d).number n (here d))
place_found n bs (Err i) rising within parts =
    let (below, above) = parts (rises_by n bs rising) in
    (within, ((λ k d least most. is_less (get_or bs k d).number n (below k d least most)), (λ k d least most. is_greater (get_or bs k d).number n (above k d least most))))

-- a number above the last one is above all of them
pub place_last : (n : ℕ) (bs : List KeptBirths) → IsRising bs → ((d : KeptBirths) → 0 < length bs → (get_or bs (length bs - 1) d).number < n) → IsPlaceOf bs n (Err (length bs))
place_last n bs rising last = (
  omega arith,
  (
    (λ k d least most. elim (cases_eq k (length bs - 1)) [
      | inl same ↦ let less = last d (omega (arith, most)) in rw same less
      | inr other ↦ let less = last d (omega (arith, most)) in let more = rising k (length bs - 1) d (omega (arith, most, other)) (omega (arith, most)) in omega (arith, less, more)
    ]),
    (λ k d least most. absurd (omega (arith, least, most))),
  ),
)
