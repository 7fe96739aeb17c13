-- What is known of a history: one token has the whole log, and each thread has a prefix of it and what it did itself.
use Rattle.std.specs.Prelude.{ℕ, ◌<◌, ◌≤◌, ◌≡◌, ◌≢◌, ◌==◌, Bool, true, false, List, [], ◌∷◌, ◌++◌, map}
use mathlib.Core.List.{IsPrefix}
use mathlib.Core.Option.{some}
use lib.ListN.{get_elem?}
use Rattle.shared_history.specs.declared.views.View.{View}

-- ---- a log: entries, each with the index of the thread that made it

abbrev pub own_if : {E : Type 0} → Bool → E → List E → List E
own_if true e es = e ∷ es
own_if false e es = es

-- the entries of one index
abbrev pub own : {E : Type 0} → ℕ → List (ℕ × E) → List E
own by [] = []
own by (x ∷ xs) = own_if (x.0 == by) x.1 (own by xs)

-- these entries, with that index
abbrev pub tagged : {E : Type 0} → ℕ → List E → List (ℕ × E)
tagged by es = map (λ e. (by, e)) es

-- ---- views

module _ {E : Type 0} where
  abbrev pub whole_log : List (ℕ × E) → ℕ → View E
  whole_log log given = record { keeps = true; log = log; given = given; signs = false; by = 0; seen = []; mine = [] }

  abbrev pub thread_log : ℕ → List (ℕ × E) → List E → View E
  thread_log by seen mine = record { keeps = false; log = []; given = 0; signs = true; by = by; seen = seen; mine = mine }

  abbrev pub nobody : View E
  nobody = record { keeps = false; log = []; given = 0; signs = false; by = 0; seen = []; mine = [] }

  -- the whole log together with that of a thread
  abbrev pub both : View E → View E → View E
  both v w = record { keeps = v.keeps; log = v.log; given = v.given; signs = w.signs; by = w.by; seen = w.seen; mine = w.mine }

  abbrev pub view_in : List (View E) → View E
  view_in [] = nobody
  view_in (v ∷ vs) = v

  -- ---- the rule

  -- what one view says about the log
  pub record Fits (log : List (ℕ × E)) (given : ℕ) (v : View E) : Type 0 where
    pub whole : v.keeps ≡ true → (v.log ≡ log) × (v.given ≡ given)
    pub begins : v.signs ≡ true → IsPrefix v.seen log
    pub own_is : v.signs ≡ true → own v.by log ≡ v.mine
    pub below : v.signs ≡ true → v.by < given

  -- at most one view is the whole log, and at most one has a given index
  pub record Apart (v w : View E) : Type 0 where
    pub keeps : v.keeps ≡ true → w.keeps ≡ true → ⊥
    pub signs : v.signs ≡ true → w.signs ≡ true → v.by ≢ w.by

  abbrev pub AllFit : List (ℕ × E) → ℕ → List (View E) → Type 0
  AllFit log given views = (j : ℕ) (v : View E) → get_elem? views j ≡ some v → Fits log given v

  abbrev pub AllApart : List (View E) → Type 0
  AllApart views = (j k : ℕ) (v w : View E) → j ≢ k → get_elem? views j ≡ some v → get_elem? views k ≡ some w → Apart v w

  -- there is one log, which fits all views, and no entry has an index that was not given out yet
  pub record Kept (views : List (View E)) : Type 0 where
    pub log : List (ℕ × E)
    pub given : ℕ
    pub fresh : (i : ℕ) → given ≤ i → own i log ≡ []
    pub fit : AllFit log given views
    pub apart : AllApart views

  -- no entry has the index to be given out next, or a higher one
  abbrev pub IsFresh : View E → Type 0
  IsFresh v = (i : ℕ) → v.given ≤ i → own i v.log ≡ []

  -- ---- the result of a step

  -- entries were added to the whole log, with the thread's index. The thread now knows the whole log, and what it knew
  -- before is a prefix
  pub record Extends (es : List E) (v w : View E) : Type 0 where
    pub log : w.log ≡ v.log ++ tagged v.by es
    pub given : w.given ≡ v.given
    pub by : w.by ≡ v.by
    pub seen : w.seen ≡ v.log ++ tagged v.by es
    pub mine : w.mine ≡ v.mine ++ es
    pub keeps : w.keeps ≡ true
    pub signs : w.signs ≡ true
    pub begins : IsPrefix v.seen v.log
    pub own_is : own v.by v.log ≡ v.mine
    pub own_new : own v.by (v.log ++ tagged v.by es) ≡ v.mine ++ es
    pub fresh : (i : ℕ) → v.given ≤ i → own i w.log ≡ []
