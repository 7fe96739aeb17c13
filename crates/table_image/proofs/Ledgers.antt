-- Facts about a ledger in order, read from its end.
use Rattle.std.proofs.Common.{ℕ, ◌+◌, ◌-◌, ◌<◌, ◌≤◌, ◌≡◌, ◌==◌, ◌&&◌, ◌⊎◌, inl, inr, true, false, cond, List, Contains, length, get_or, take, drop, refl, sym, ap, ◌∙◌, subst, length-take, arith}
use Rattle.std.specs.Prelude.{All, sum_by, count_by}
use Rattle.std.proofs.lemmas.Bool.{cases_eq, eq-eqb, eqb-true, cond-true, and_parts, and_from, false_from_ne_true}
use Rattle.std.proofs.lemmas.List.{take_more, take-take, get_or-take, get_or_default}
use Rattle.std.proofs.lemmas.List.Elements.{Contains-get_or}
use Rattle.std.proofs.lemmas.List.Sums.{sum_by-le, sum_by-take-drop, sum_by-drop_more, sum_by_more}
use Rattle.ledger.specs.declared.births.KeptBirths.{KeptBirths}
use Rattle.ledger.specs.declared.postings.Posting.{Posting}
use Rattle.ledger.specs.declared.postings.Posting.TheVariants.{Born, Entry, Back, Forget, Opening}
use Rattle.ledger.specs.declared.shares.Totals.{Totals}
use Rattle.ledger.specs.Periods.{Periods, posted, up_to}
use Rattle.ledger.specs.Sums.{number_of, generation_of, is_birth, entered_by, given_by, births_of, entries_of, given_back_of, IsAllowed, IsNeverNegative}
use Rattle.ledger.proofs.Balances.{entered_in, given_in}
use Rattle.ledger.proofs.SumsLemmas.{never_negative-push}
use Rattle.table_law.specs.Law.{IsBegun, MayOpen, MayStand, IsOrdered}
use Rattle.table_image.specs.Parts.{Begins}

-- ---- births

-- a prefix of a ledger in order is in order
pub IsOrdered-take : (ps : Periods) (k : ℕ) → IsOrdered ps → IsOrdered (up_to k ps)
IsOrdered-take ps k ordered = record {
  each = λ j d within.
      let short : j < k = omega (arith, length-take k ps.last) in
      let inside : j < length ps.last = omega (arith, length-take k ps.last) in
      let same : take j (take k ps.last) ≡ take j ps.last = take-take j k ps.last (omega arith) in
      let read : get_or (take k ps.last) j d ≡ get_or ps.last j d = get_or-take k ps.last j d short in
      rw (same, read) (ordered.each j d inside);
}

-- the births of n among postings
abbrev born_in : ℕ → List Posting → ℕ
born_in n ps = count_by (is_birth n) ps

abbrev born_by : ℕ → Posting → ℕ
born_by n p = cond (is_birth n p) 1 0

-- a birth has the number of births before it as its generation
birth_at : (ps : Periods) (n g k : ℕ) (d : Posting) → IsOrdered ps → k < length ps.last → get_or ps.last k d ≡ Born n g → g ≡ births_of n (up_to k ps)
birth_at ps n g k d ordered within is = let P : Posting → Type 0 = λ p. MayStand (up_to k ps) p in subst P is (ordered.each k d within)

birth_counts : (n g : ℕ) (p : Posting) → p ≡ Born n g → born_by n p ≡ 1
birth_counts n g p is = let P : Posting → Type 0 = λ q. born_by n q ≡ 1 in subst P (sym is) (cond-true (n == n) 1 0 (eq-eqb n n refl))

births_parts : (n : ℕ) (ps : List Posting) (k : ℕ) (d : Posting) → k < length ps
    → born_in n ps ≡ born_in n (take k ps) + (born_by n (get_or ps k d) + born_in n (drop (k + 1) ps))
births_parts n ps k d within =
    omega (arith, sum_by-take-drop (born_by n) ps k, sum_by-drop_more (born_by n) ps k d within)

-- the last birth of a number says how often it was born
pub last_birth : (ps : Periods) (n g j : ℕ) (d : Posting) → IsOrdered ps → 0 < j → j ≤ length ps.last → get_or ps.last (j - 1) d ≡ Born n g → born_in n (drop j ps.last) ≡ 0
    → g + 1 ≡ births_of n ps
last_birth ps n g j d ordered some within is none =
    let here : j - 1 < length ps.last = omega arith in
    let next : (j - 1) + 1 ≡ j = omega arith in
    let before = birth_at ps n g (j - 1) d ordered here is in
    let one = birth_counts n g (get_or ps.last (j - 1) d) is in
    let later : born_in n (drop ((j - 1) + 1) ps.last) ≡ 0 = ap (λ (i : ℕ). born_in n (drop i ps.last)) next ∙ none in
    omega (arith, before, one, later, births_parts n ps.last (j - 1) d here)

-- ---- births and openings

-- an opening at an index
opening_at : (ps : Periods) (n g c k : ℕ) (d : Posting) → IsOrdered ps → k < length ps.last → get_or ps.last k d ≡ Opening n g c → MayOpen (up_to k ps) n g
opening_at ps n g c k d ordered within is = let P : Posting → Type 0 = λ p. MayStand (up_to k ps) p in subst P is (ordered.each k d within)

-- no birth or opening of that number and generation comes before
unborn_before : (ps : Periods) (n g k : ℕ) (d : Posting) → IsOrdered ps → k < length ps.last → get_or ps.last k d ≡ Born n g → IsBegun (up_to k ps) n g → ⊥
unborn_before ps n g k d ordered within is (inl first) =
    let qs = up_to k ps in
    let old = birth_at qs n g first.0 (Born n g) (IsOrdered-take ps k ordered) first.1 first.2 in
    let now = birth_at ps n g k d ordered within is in
    omega (arith, old, now, birth_counts n g (get_or qs.last first.0 (Born n g)) first.2, births_parts n qs.last first.0 (Born n g) first.1)
unborn_before ps n g k d ordered within is (inr (c, first)) =
    let qs = up_to k ps in
    let known = (opening_at qs n g c first.0 (Opening n g c) (IsOrdered-take ps k ordered) first.1 first.2).known in
    let now = birth_at ps n g k d ordered within is in
    omega (arith, known, now)

-- no number and generation has two births or openings
pub begun_once : (ps : Periods) (n g k : ℕ) (d : Posting) → IsOrdered ps → k < length ps.last → Begins (get_or ps.last k d) n g → IsBegun (up_to k ps) n g → ⊥
begun_once ps n g k d ordered within (inl born) = unborn_before ps n g k d ordered within born
begun_once ps n g k d ordered within (inr (c, opened)) = (opening_at ps n g c k d ordered within opened).once

-- ---- entries of one number and generation

-- the posting neither makes nor takes an entry of n in generation g
record IsSilent (n g : ℕ) (p : Posting) : Type 0 where
  entry : entered_by n g p ≡ 0
  given : given_by n g p ≡ 0

other_life : (n g m h : ℕ) (before : Periods) → (IsBegun before n g → ⊥) → IsBegun before m h → (m == n && h == g) ≡ false
other_life n g m h before none begun = false_from_ne_true (m == n && h == g) (λ yes.
    let parts = and_parts (m == n) (h == g) yes in
    let P : ℕ → ℕ → Type 0 = λ a b. IsBegun before a b in
    let number : m ≡ n = eqb-true m n parts.0 in
    let life : h ≡ g = eqb-true h g parts.1 in
    none (subst (λ (b : ℕ). P n b) life (subst (λ (a : ℕ). P a h) number begun)))

other_opening : (n g m h c : ℕ) → (Begins (Opening m h c) n g → ⊥) → (m == n && h == g) ≡ false
other_opening n g m h c none = false_from_ne_true (m == n && h == g) (λ yes.
    let parts = and_parts (m == n) (h == g) yes in
    let number : m ≡ n = eqb-true m n parts.0 in
    let life : h ≡ g = eqb-true h g parts.1 in
    none (inr (c, λ i. Opening (number i) (life i) c)))

silent : (n g : ℕ) (before : Periods) (p : Posting) → (IsBegun before n g → ⊥) → (Begins p n g → ⊥) → MayStand before p → IsSilent n g p
silent n g before (Born m h) none here may = record { entry = refl; given = refl }
silent n g before (Entry m h) none here may = let other = other_life n g m h before none may in record { entry = rw other refl; given = refl }
silent n g before (Back m h) none here may = let other = other_life n g m h before none may in record { entry = refl; given = rw other refl }
silent n g before (Forget m h k) none here may = let other = other_life n g m h before none may in record { entry = refl; given = rw other refl }
silent n g before (Opening m h c) none here may = let other = other_opening n g m h c here in record { entry = rw other refl; given = refl }

nothing : (f : Posting → ℕ) (ps : List Posting) → All (λ p. f p ≡ 0) ps → sum_by f ps ≡ 0
nothing f ps each = omega (arith, sum_by-le f 0 ps (λ k d within. let zero = each k d within in omega arith))

-- nothing was entered or given back for that number and generation
pub record IsUnposted (n g : ℕ) (ps : List Posting) : Type 0 where
  pub entries : entered_in n g ps ≡ 0
  pub given : given_in n g ps ≡ 0

-- what has a birth or opening in a prefix has one in the whole
begun_later : (ps : Periods) (k n g : ℕ) → IsBegun (up_to k ps) n g → IsBegun ps n g
begun_later ps k n g (inl first) =
    let short : first.0 < k = omega (arith, first.1, length-take k ps.last) in
    inl (first.0, omega (arith, first.1, length-take k ps.last), sym (get_or-take k ps.last first.0 (Born n g) short) ∙ first.2)
begun_later ps k n g (inr (c, first)) =
    let short : first.0 < k = omega (arith, first.1, length-take k ps.last) in
    inr (c, (first.0, omega (arith, first.1, length-take k ps.last), sym (get_or-take k ps.last first.0 (Opening n g c) short) ∙ first.2))

begun_here : (ps : Periods) (k n g : ℕ) (d : Posting) → k < length ps.last → Begins (get_or ps.last k d) n g → IsBegun ps n g
begun_here ps k n g d within (inl born) = inl (subst (Contains ps.last) born (Contains-get_or ps.last k d within))
begun_here ps k n g d within (inr (c, opened)) = inr (c, subst (Contains ps.last) opened (Contains-get_or ps.last k d within))

pub unbegun : (n g : ℕ) (ps : Periods) → IsOrdered ps → (IsBegun ps n g → ⊥) → IsUnposted n g ps.last
unbegun n g ps ordered none =
    let each : (k : ℕ) (d : Posting) → k < length ps.last → IsSilent n g (get_or ps.last k d) = λ k d within.
    silent n g (up_to k ps) (get_or ps.last k d) (λ first. none (begun_later ps k n g first)) (λ here. none (begun_here ps k n g d within here)) (ordered.each k d within) in
    record {
      entries = nothing (entered_by n g) ps.last (λ k d within. (each k d within).entry);
      given = nothing (given_by n g) ps.last (λ k d within. (each k d within).given);
    }

-- so all entries come after the birth or the opening
pub record IsAllFrom (n g j : ℕ) (ps : List Posting) : Type 0 where
  pub entries : entered_in n g (drop j ps) ≡ entered_in n g ps
  pub given : given_in n g (drop j ps) ≡ given_in n g ps

pub from_begin : (ps : Periods) (n g j : ℕ) (d : Posting) → IsOrdered ps → j < length ps.last → Begins (get_or ps.last j d) n g → IsAllFrom n g j ps.last
from_begin ps n g j d ordered within is =
    let before = unbegun n g (up_to j ps) (IsOrdered-take ps j ordered) (begun_once ps n g j d ordered within is) in
    record {
      entries = omega (arith, before.entries, sum_by-take-drop (entered_by n g) ps.last j);
      given = omega (arith, before.given, sum_by-take-drop (given_by n g) ps.last j);
    }

pub all_from_none : (ps : List Posting) (n g j : ℕ) → j ≤ 0 → IsAllFrom n g j ps
all_from_none ps n g j none =
    let P : ℕ → Type 0 = λ i. IsAllFrom n g i ps in
    let first : 0 ≡ j = omega arith in
    subst P first (record { entries = refl; given = refl })

-- one more posting is read, from the end
pub record ReadsOn (n g j : ℕ) (ps : List Posting) (p : Posting) : Type 0 where
  pub entries : entered_in n g (drop (j - 1) ps) ≡ entered_by n g p + entered_in n g (drop j ps)
  pub given : given_in n g (drop (j - 1) ps) ≡ given_by n g p + given_in n g (drop j ps)

pub reads_on : (ps : List Posting) (n g j : ℕ) (d : Posting) → 0 < j → j ≤ length ps → ReadsOn n g j ps (get_or ps (j - 1) d)
reads_on ps n g j d some within =
    let next : (j - 1) + 1 ≡ j = omega arith in
    let here : j - 1 < length ps = omega arith in
    record {
      entries = omega (arith, sum_by-drop_more (entered_by n g) ps (j - 1) d here, ap (λ (i : ℕ). entered_in n g (drop i ps)) next);
      given = omega (arith, sum_by-drop_more (given_by n g) ps (j - 1) d here, ap (λ (i : ℕ). given_in n g (drop i ps)) next);
    }

-- ---- no count is negative

-- one more posting of a ledger
take_posted : (ps : Periods) (k : ℕ) (d : Posting) → k < length ps.last → up_to (k + 1) ps ≡ posted (up_to k ps) (get_or ps.last k d)
take_posted ps k d within = ap (λ (l : List Posting). record ps { last = l }) (take_more ps.last k d within)

-- a prefix that is never negative, followed by a posting that takes no more than there is
pub never_negative_more : (ps : Periods) (k : ℕ) (d : Posting) → k < length ps.last → IsNeverNegative (up_to k ps) → IsAllowed (up_to k ps) (get_or ps.last k d) → IsNeverNegative (up_to (k + 1) ps)
never_negative_more ps k d within before may =
    subst IsNeverNegative (sym (take_posted ps k d within)) (never_negative-push (up_to k ps) (get_or ps.last k d) before may)

self : (n g : ℕ) → (n == n && g == g) ≡ true
self n g = and_from (n == n) (g == g) (eq-eqb n n refl) (eq-eqb g g refl)

allowed_from : (before : Periods) (p : Posting) → ((n g : ℕ) → given_back_of n g before + given_by n g p ≤ entries_of n g before + entered_by n g p) → IsAllowed before p
allowed_from before (Born m h) each = tt
allowed_from before (Entry m h) each = tt
allowed_from before (Back m h) each = let h = rw (self m h) at (each m h) in omega arith
allowed_from before (Forget m h k) each = let h = rw (self m h) at (each m h) in omega arith
allowed_from before (Opening m h k) each = tt

-- and each posting of a ledger that is never negative is such a posting
pub allowed_at : (ps : Periods) (k : ℕ) (d : Posting) → k < length ps.last → IsNeverNegative ps → IsAllowed (up_to k ps) (get_or ps.last k d)
allowed_at ps k d within never = allowed_from (up_to k ps) (get_or ps.last k d) (λ n g.
    omega (arith, never.within (k + 1) n g, sum_by_more (given_by n g) ps.last k d within, sum_by_more (entered_by n g) ps.last k d within))

-- ---- numbers and generations, by the last posting about them

-- from that index on, no posting is about n in generation g
pub record IsUnmentioned (n g from : ℕ) (ps : List Posting) : Type 0 where
  pub none : (k : ℕ) (d : Posting) → from ≤ k → k < length ps → number_of (get_or ps k d) ≡ n → generation_of (get_or ps k d) ≡ g → ⊥

pub unmentioned-none : (n g : ℕ) (ps : List Posting) → IsUnmentioned n g (length ps) ps
unmentioned-none n g ps = record { none = λ k d past within. absurd (omega arith) }

pub unmentioned-more : (n g j : ℕ) (ps : List Posting) (e : Posting) → 0 < j → j ≤ length ps → ((number_of (get_or ps (j - 1) e) ≡ n) × (generation_of (get_or ps (j - 1) e) ≡ g) → ⊥)
    → IsUnmentioned n g j ps → IsUnmentioned n g (j - 1) ps
unmentioned-more n g j ps e some short other later = record {
  none = λ k d past within number life. elim (cases_eq k (j - 1)) [
    | inl here ↦
        let read : get_or ps k d ≡ get_or ps (j - 1) e = get_or_default ps k d e within ∙ ap (λ (i : ℕ). get_or ps i e) here in
        other (ap number_of (sym read) ∙ number, ap generation_of (sym read) ∙ life)
    | inr ne ↦ later.none k d (omega arith) within number life
  ];
}

pub unmentioned-unbegun : (n g j : ℕ) (ps : Periods) → j ≤ 0 → IsUnmentioned n g j ps.last → IsBegun ps n g → ⊥
unmentioned-unbegun n g j ps start unmentioned (inl born) =
    unmentioned.none born.0 (Born n g) (omega arith) born.1 (ap number_of born.2) (ap generation_of born.2)
unmentioned-unbegun n g j ps start unmentioned (inr (c, opened)) =
    unmentioned.none opened.0 (Opening n g c) (omega arith) opened.1 (ap number_of opened.2) (ap generation_of opened.2)

begun_by : (before : Periods) (p : Posting) → MayStand before p → IsBegun before (number_of p) (generation_of p) ⊎ Begins p (number_of p) (generation_of p)
begun_by before (Born n g) may = inr (inl refl)
begun_by before (Entry n g) may = inl may
begun_by before (Back n g) may = inl may
begun_by before (Forget n g k) may = inl may
begun_by before (Opening n g k) may = inr (inr (k, refl))

mentioned_here : (ps : Periods) (k : ℕ) (d : Posting) → IsOrdered ps → k < length ps.last → IsBegun ps (number_of (get_or ps.last k d)) (generation_of (get_or ps.last k d))
mentioned_here ps k d ordered within =
    let p = get_or ps.last k d in
    elim (begun_by (up_to k ps) p (ordered.each k d within)) [
      | inl before ↦ begun_later ps k (number_of p) (generation_of p) before
      | inr here ↦ begun_here ps k (number_of p) (generation_of p) d within here
    ]

-- a posting is about a number and generation only after its birth or opening
pub mentioned : (ps : Periods) (n g k : ℕ) (d : Posting) → IsOrdered ps → k < length ps.last → (number_of (get_or ps.last k d) ≡ n) × (generation_of (get_or ps.last k d) ≡ g) → IsBegun ps n g
mentioned ps n g k d ordered within same =
    let P : ℕ → ℕ → Type 0 = λ a b. IsBegun ps a b in
    subst (λ (b : ℕ). P n b) same.1 (subst (λ (a : ℕ). P a (generation_of (get_or ps.last k d))) same.0 (mentioned_here ps k d ordered within))

-- ---- what was posted before the last period

-- whether a posting may come at an index does not depend on the kept totals
stands_with : (births : List KeptBirths) (t u : Totals) (last : List Posting) (p : Posting) → MayStand (record { births = births; totals = t; last = last }) p → MayStand (record { births = births; totals = u; last = last }) p
stands_with births t u last (Born n g) may = may
stands_with births t u last (Entry n g) may = may
stands_with births t u last (Back n g) may = may
stands_with births t u last (Forget n g k) may = may
stands_with births t u last (Opening n g k) may = record { first = may.first; once = may.once; known = may.known }

pub ordered_with : (births : List KeptBirths) (t u : Totals) (last : List Posting) → IsOrdered (record { births = births; totals = t; last = last }) → IsOrdered (record { births = births; totals = u; last = last })
ordered_with births t u last ordered = record { each = λ k d within. stands_with births t u (take k last) (get_or last k d) (ordered.each k d within) }
