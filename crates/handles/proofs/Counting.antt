-- Each step keeps the counts: they are what all tokens have of them, and within their limits.
use Rattle.std.proofs.Common.{◌≡◌, ℕ, zero, suc, ◌+◌, ◌-◌, ◌%◌, ◌^◌, ◌<◌, ◌≤◌, Bool, true, false, List, [], ◌∷◌, ◌++◌, set, refl, sym, ap, ◌∙◌, subst, arith, eqb, eqb-true}
use Rattle.std.specs.Prelude.{if◌then◌else◌, slice_index, slice_set}
use Rattle.std.specs.List.{sum_by}
use Rattle.std.proofs.lemmas.List.{set-get_or}
use Rattle.std.proofs.lemmas.List.Sums.{sum_by-cons, sum_by-append}
use Rattle.std.proofs.Math.Nat.{add-mod_right, mod-eq_of_lt}
use mathlib.Core.Option.{some, some-ne-none, some-injective}
use lib.ListN.{get_elem?}
use prog.Atomic.{either}
use Rattle.atomic_table.specs.Table.{State, Act, keeps, Valid, Allows, Enters, carried_after, stepped}
use Rattle.atomic_table.proofs.Lists.{set_again}
use Rattle.handles.specs.declared.counted.Counted.{Counted}
use Rattle.handles.specs.declared.limits.FolderLimits.{FolderLimits}
use Rattle.handles.specs.Counts.{nothing, amount, with_amount, limit, IsCounted}

abbrev Keeps : FolderLimits → State ℕ Counted → Type 0
Keeps limits s = IsCounted limits s.words s.views

-- what one step has to show: the new view, which keeps the counts
abbrev Shows : FolderLimits → State ℕ Counted → ℕ → ℕ → ℕ → Counted × List (ℕ × ℕ) → Counted × List (ℕ × ℕ) → Type 0
Shows limits s word new id me after = (w : Counted) × (a : Act ℕ) × Valid s.homes me.1 a × Keeps limits (stepped s word new id me.1 w a) × ((w, carried_after me.1 a) ≡ after)

-- ---- sums over the tokens

-- one token changes
moved : (f : Counted → ℕ) (tokens : List Counted) (id : ℕ) (v w : Counted) → get_elem? tokens id ≡ some v → sum_by f (set tokens id w) + f v ≡ sum_by f tokens + f w
moved f [] id v w at = absurd (some-ne-none v (sym at))
moved f (t ∷ ts) zero v w at = let e : f t ≡ f v = ap f (some-injective t v at) in omega (arith, sum_by-cons f t ts, sum_by-cons f w ts)
moved f (t ∷ ts) (suc id) v w at = let m = moved f ts id v w at in omega (arith, sum_by-cons f t ts, sum_by-cons f t (set ts id w))

-- what one token has is within the sum
part : (f : Counted → ℕ) (tokens : List Counted) (id : ℕ) (v : Counted) → get_elem? tokens id ≡ some v → f v ≤ sum_by f tokens
part f [] id v at = absurd (some-ne-none v (sym at))
part f (t ∷ ts) zero v at = let e : f t ≡ f v = ap f (some-injective t v at) in omega (arith, sum_by-cons f t ts)
part f (t ∷ ts) (suc id) v at = let m = part f ts id v at in omega (arith, sum_by-cons f t ts)

pair : {a b c d : ℕ} → a ≡ c → b ≡ d → a ∷ b ∷ [] ≡ c ∷ d ∷ []
pair e f = λ i. e i ∷ f i ∷ []

-- ---- the start, and a token that has nothing

pub begins : (limits : FolderLimits) → IsCounted limits (0 ∷ 0 ∷ []) (nothing ∷ [])
begins limits = record { are_sums = refl; folders = omega arith; names = omega arith }

-- one more token, which has nothing, changes no sum
joined : (f : Counted → ℕ) (tokens : List Counted) → f nothing ≡ 0 → sum_by f tokens ≡ sum_by f (tokens ++ nothing ∷ [])
joined f tokens none = omega (arith, none, sum_by-append f tokens (nothing ∷ []), sum_by-cons f nothing [])

pub comes : (limits : FolderLimits) (slots word : ℕ) → Enters {S = ℕ} (Keeps limits) slots word (λ _ w. w ≡ nothing)
comes limits slots word s counted homes room =
    let f = joined (amount 0) s.views refl in
    let n = joined (amount 1) s.views refl in
    (nothing, record { are_sums = counted.are_sums ∙ pair f n; folders = omega (arith, f, counted.folders); names = omega (arith, n, counted.names) }, refl)

-- ---- a count changes, and one token by as much

changed : (limits : FolderLimits) (words : List ℕ) (tokens : List Counted) (word id new amt : ℕ) (v : Counted) → word < 2 → IsCounted limits words tokens → get_elem? tokens id ≡ some v
    → new + amount word v ≡ slice_index words word + amt → new ≤ limit word limits → IsCounted limits (slice_set words word new) (slice_set tokens id (with_amount word v amt))
changed limits words tokens zero id new amt v lt counted at even within =
    let w : Counted = with_amount 0 v amt in
    let f = moved (amount 0) tokens id v w at in
    let n = moved (amount 1) tokens id v w at in
    let was : slice_index words 0 ≡ sum_by (amount 0) tokens = ap (λ ws. slice_index ws 0) counted.are_sums in
    let sum0 : new ≡ sum_by (amount 0) (set tokens id w) = omega (arith, f, was, even) in
    let sum1 : sum_by (amount 1) tokens ≡ sum_by (amount 1) (set tokens id w) = omega (arith, n) in
    record { are_sums = ap (λ ws. slice_set ws 0 new) counted.are_sums ∙ pair sum0 sum1; folders = omega (arith, sum0, within); names = omega (arith, sum1, counted.names) }
changed limits words tokens (suc zero) id new amt v lt counted at even within =
    let w : Counted = with_amount 1 v amt in
    let f = moved (amount 0) tokens id v w at in
    let n = moved (amount 1) tokens id v w at in
    let was : slice_index words 1 ≡ sum_by (amount 1) tokens = ap (λ ws. slice_index ws 1) counted.are_sums in
    let sum1 : new ≡ sum_by (amount 1) (set tokens id w) = omega (arith, n, was, even) in
    let sum0 : sum_by (amount 0) tokens ≡ sum_by (amount 0) (set tokens id w) = omega (arith, f) in
    record { are_sums = ap (λ ws. slice_set ws 1 new) counted.are_sums ∙ pair sum0 sum1; folders = omega (arith, sum0, counted.folders); names = omega (arith, sum1, within) }
changed limits words tokens (suc (suc k)) id new amt v lt counted at even within = absurd (omega arith)

-- what one token has of a count is within it, and the count within its limit
held : (limits : FolderLimits) (words : List ℕ) (tokens : List Counted) (word id : ℕ) (v : Counted) → word < 2 → IsCounted limits words tokens → get_elem? tokens id ≡ some v
    → (amount word v ≤ slice_index words word) × (slice_index words word ≤ limit word limits)
held limits words tokens zero id v lt counted at =
    let was : slice_index words 0 ≡ sum_by (amount 0) tokens = ap (λ ws. slice_index ws 0) counted.are_sums in
    (omega (arith, was, part (amount 0) tokens id v at), omega (arith, was, counted.folders))
held limits words tokens (suc zero) id v lt counted at =
    let was : slice_index words 1 ≡ sum_by (amount 1) tokens = ap (λ ws. slice_index ws 1) counted.are_sums in
    (omega (arith, was, part (amount 1) tokens id v at), omega (arith, was, counted.names))
held limits words tokens (suc (suc k)) id v lt counted at = absurd (omega arith)

-- ---- a count is raised, if it is still what it was found to be

raises_if : (limits : FolderLimits) (s : State ℕ Counted) (word id seen after : ℕ) (me : Counted × List (ℕ × ℕ)) → word < 2 → seen ≤ after → after ≤ limit word limits → Keeps limits s → get_elem? s.views id ≡ some me.0
    → (b : Bool) → (b ≡ true → slice_index s.words word ≡ seen)
    → Shows limits s word (either b after (slice_index s.words word)) id me (if b then (with_amount word me.0 (amount word me.0 + (after - seen)), me.1) else me)
raises_if limits s word id seen after me lt le within counted at true same =
    let amt : ℕ = amount word me.0 + (after - seen) in
    let was : slice_index s.words word ≡ seen = same refl in
    (with_amount word me.0 amt, keeps, tt, changed limits s.words s.views word id after amt me.0 lt counted at (omega (arith, was, le)) within, refl)
raises_if limits s word id seen after me lt le within counted at false same =
    (me.0, keeps, tt, rw (set-get_or s.words word 0, set_again s.views id me.0 at) counted, refl)

pub raises : (limits : FolderLimits) (slots word id seen after : ℕ) (me : Counted × List (ℕ × ℕ)) → word < 2 → seen ≤ after → after ≤ limit word limits
    → Allows (Keeps limits) slots id me word (λ n. either (eqb n seen) after n) (λ n w. w ≡ (if eqb n seen then (with_amount word me.0 (amount word me.0 + (after - seen)), me.1) else me))
raises limits slots word id seen after me lt le within s counted homes at room =
    raises_if limits s word id seen after me lt le within counted at (eqb (slice_index s.words word) seen) (λ e. eqb-true _ _ e)

-- ---- a count is lowered

wrapped : (n k : ℕ) → k ≤ n → n < 2 ^ 64 → (n + (2 ^ 64 - k)) % 2 ^ 64 ≡ n - k
wrapped n k le room =
    let e : n + (2 ^ 64 - k) ≡ (n - k) + 2 ^ 64 = omega arith in
    let small : n - k < 2 ^ 64 = omega arith in
    ap (λ x. x % 2 ^ 64) e ∙ add-mod_right (n - k) (2 ^ 64) ∙ mod-eq_of_lt small

pub lowers : (limits : FolderLimits) (slots word id less : ℕ) (me : Counted × List (ℕ × ℕ)) → word < 2 → less ≤ amount word me.0
    → Allows (Keeps limits) slots id me word (λ n. (n + (2 ^ 64 - less)) % 2 ^ 64) (λ n w. w ≡ (with_amount word me.0 (amount word me.0 - less), me.1))
lowers limits slots word id less me lt le s counted homes at room =
    let amt : ℕ = amount word me.0 - less in
    let in_it = held limits s.words s.views word id me.0 lt counted at in
    let n : ℕ = slice_index s.words word in
    let e : (n + (2 ^ 64 - less)) % 2 ^ 64 ≡ n - less = wrapped n less (omega (arith, in_it.0, le)) room in
    let F : ℕ → Type 0 = λ new. IsCounted limits (slice_set s.words word new) (slice_set s.views id (with_amount word me.0 amt)) in
    (with_amount word me.0 amt, keeps, tt, subst F (sym e) (changed limits s.words s.views word id (n - less) amt me.0 lt counted at (omega (arith, in_it.0, le)) (omega (arith, in_it.1))), refl)
