-- What each of the workers did, one after another.
use Rattle.std.proofs.Common.{◌≡◌, ◌∙◌, ◌<◌, ◌+◌, ◌++◌, ℕ, zero, suc, List, [], ◌∷◌, length, Option, None, inl, inr, refl, sym, ap, subst, subst₂, arith, length-append}
use Rattle.std.proofs.Math.Logic.{∥∥₁_map}
use Rattle.std.proofs.lemmas.Bool.{cases_lt}
use mathlib.Core.Option.{some}
use lib.ListN.{get_elem?}
use Rattle.ledger.specs.Shares.{Part}
use Rattle.terms.specs.declared.settings.Settings.{Settings}
use Rattle.engine.specs.Serving.{Behaviour}
use Rattle.engine_turns.specs.declared.job.Job.{Job}
use Rattle.engine_queues.specs.declared.passes.Passes.{Passes}
use Rattle.engine_turns.specs.declared.replies.JobReply.{JobReply}
use Rattle.engine_turns.specs.TableCalls.{OnTable}
use Rattle.table_shared.specs.Runs.{Call}
use Rattle.engine_threads.specs.Worked.{HasEnded, WorkedAt, WorkedEach, made_by}
use Rattle.engine_threads.proofs.Chains.{index_from}

module _ {X : Type 0} where
  -- what stood at a place stands there still
  pub at_append : (xs : List X) (y : X) (n : ℕ) (x : X) → get_elem? xs n ≡ some x → get_elem? (xs ++ y ∷ []) n ≡ some x
  at_append [] y n x e = absurd (cc e)
  at_append (z ∷ xs) y zero x e = e
  at_append (z ∷ xs) y (suc n) x e = at_append xs y n x e

  pub at_end : (xs : List X) (y : X) → get_elem? (xs ++ y ∷ []) (length xs) ≡ some y
  at_end [] y = refl
  at_end (z ∷ xs) y = at_end xs y

-- what stands after those
pub at_here : {X : Type 0} (xs : List X) (y : X) (ys : List X) → get_elem? (xs ++ y ∷ ys) (length xs) ≡ some y
at_here [] y ys = refl
at_here (z ∷ xs) y ys = at_here xs y ys

-- the next of those that are given, whose number is how many were before it
pub given_at : {X : Type 0} (given before left rest : List X) (x : X) (n m : ℕ) → given ≡ before ++ left → left ≡ x ∷ rest → length before ≡ n → m ≡ n → get_elem? given m ≡ some x
given_at {X} given before left rest x n m g l b e =
    subst₂ (λ (xs : List X) (k : ℕ). get_elem? xs k ≡ some x) (sym (g ∙ ap (λ (r : List X). before ++ r) l)) (b ∙ sym e) (at_here before x rest)

pub log_same : (on_table : OnTable) (calls_by : ℕ → List Call) (next : ℕ) → on_table.by ≡ next → calls_by on_table.by ≡ on_table.calls → on_table ≡ made_by calls_by next
log_same on_table calls_by next b m =
    ap (λ (cs : List Call). let o : OnTable = record { by = on_table.by; calls = cs } in o) (sym m) ∙ ap (λ (k : ℕ). made_by calls_by k) b

module _ {C D : Type 0} (does : Behaviour C D) (settings : Option Settings) (calls_by : ℕ → List Call) (given : List C) where
  -- what it did on the table is what the history has of it
  pub checked_off : (last_job : Option Job) (passes : Passes Job JobReply) (left : C) (share : Part) (on_table : OnTable) (next : ℕ) → passes.number ≡ next → calls_by on_table.by ≡ on_table.calls
      → ∥ HasEnded does settings given last_job passes left share on_table ∥₁ → ∥ ((share : Part) × HasEnded does settings given last_job passes left share (made_by calls_by next)) ∥₁
  checked_off last_job passes left share on_table next n made h = ∥∥₁_map h (λ (k : HasEnded does settings given last_job passes left share on_table).
      let by = index_from does k.of passes.number k.first last_job passes left share on_table k.worked ∙ n in
      (share, subst (λ (o : OnTable). HasEnded does settings given last_job passes left share o) (log_same on_table calls_by next by made) k))

  -- the workers below n, and none of them answered a frame beside the queue
  abbrev pub Others : ℕ → List (Passes Job JobReply) → List C → Type 0
  Others count passes lefts = (n : ℕ) → n < count → ∥ WorkedAt does settings calls_by None given passes lefts n ∥₁

  kept : (last_job : Option Job) (passes passes' : List (Passes Job JobReply)) (lefts lefts' : List C) (own : Passes Job JobReply) (left : C) (n : ℕ) → passes' ≡ passes ++ own ∷ [] → lefts' ≡ lefts ++ left ∷ []
      → ∥ WorkedAt does settings calls_by last_job given passes lefts n ∥₁ → ∥ WorkedAt does settings calls_by last_job given passes' lefts' n ∥₁
  kept last_job passes passes' lefts lefts' own left n p l h = ∥∥₁_map h (λ (k : WorkedAt does settings calls_by last_job given passes lefts n). record {
    own = k.own;
    own_is = subst (λ (ps : List (Passes Job JobReply)). get_elem? ps n ≡ some k.own) (sym p) (at_append passes own n k.own k.own_is);
    number_is = k.number_is;
    left = k.left;
    left_is = subst (λ (cs : List C). get_elem? cs n ≡ some k.left) (sym l) (at_append lefts left n k.left k.left_is);
    share = k.share;
    ended = k.ended;
  })

  -- the next one
  pub next_at : (last_job : Option Job) (passes passes' : List (Passes Job JobReply)) (lefts lefts' : List C) (own : Passes Job JobReply) (left : C) (n : ℕ) → passes' ≡ passes ++ own ∷ [] → lefts' ≡ lefts ++ left ∷ [] → length passes ≡ n → length lefts ≡ n → own.number ≡ n
      → ∥ ((share : Part) × HasEnded does settings given last_job own left share (made_by calls_by n)) ∥₁ → ∥ WorkedAt does settings calls_by last_job given passes' lefts' n ∥₁
  next_at last_job passes passes' lefts lefts' own left n p l np nl number h = ∥∥₁_map h (λ (k : (share : Part) × HasEnded does settings given last_job own left share (made_by calls_by n)). record {
    own = own;
    own_is = subst₂ (λ (ps : List (Passes Job JobReply)) (m : ℕ). get_elem? ps m ≡ some own) (sym p) np (at_end passes own);
    number_is = number;
    left = left;
    left_is = subst₂ (λ (cs : List C) (m : ℕ). get_elem? cs m ≡ some left) (sym l) nl (at_end lefts left);
    share = k.0;
    ended = k.1;
  })

  pub one_more_at : (count : ℕ) (passes passes' : List (Passes Job JobReply)) (lefts lefts' : List C) (own : Passes Job JobReply) (left : C) → passes' ≡ passes ++ own ∷ [] → lefts' ≡ lefts ++ left ∷ [] → length passes ≡ count → length lefts ≡ count → own.number ≡ count
      → Others count passes lefts → ∥ ((share : Part) × HasEnded does settings given None own left share (made_by calls_by count)) ∥₁ → Others (count + 1) passes' lefts'
  one_more_at count passes passes' lefts lefts' own left p l np nl number so h n below = elim (cases_lt n count) [
    | inl before ↦ kept None passes passes' lefts lefts' own left n p l (so n before)
    | inr after ↦ (
        let this : count ≡ n = omega arith in
        subst (λ (m : ℕ). ∥ WorkedAt does settings calls_by None given passes' lefts' m ∥₁) this (next_at None passes passes' lefts lefts' own left count p l np nl number h))
  ]

  -- and the last, which may have answered the frame that ended the session
  pub each_worked : (count : ℕ) (last_job : Option Job) (passes passes' : List (Passes Job JobReply)) (lefts lefts' : List C) (own : Passes Job JobReply) (left : C) → passes' ≡ passes ++ own ∷ [] → lefts' ≡ lefts ++ left ∷ [] → length passes ≡ count → length lefts ≡ count → own.number ≡ count
      → length given ≡ count + 1 → Others count passes lefts → ∥ ((share : Part) × HasEnded does settings given last_job own left share (made_by calls_by count)) ∥₁ → WorkedEach does settings calls_by last_job given passes' lefts'
  each_worked count last_job passes passes' lefts lefts' own left p l np nl number all so h = record {
    others = λ n below. kept None passes passes' lefts lefts' own left n p l (so n (omega (arith, all)));
    last = λ n is. (
        let this : count ≡ n = omega (arith, all) in
        subst (λ (m : ℕ). ∥ WorkedAt does settings calls_by last_job given passes' lefts' m ∥₁) this (next_at last_job passes passes' lefts lefts' own left count p l np nl number h));
    passes_len = ap (λ (ps : List (Passes Job JobReply)). length ps) p ∙ (let e : length (passes ++ own ∷ []) ≡ length given = omega (arith, all, length-append passes (own ∷ [])) in e);
    lefts_len = ap (λ (cs : List C). length cs) l ∙ (let e : length (lefts ++ left ∷ []) ≡ length given = omega (arith, all, length-append lefts (left ∷ [])) in e);
  }

  pub some_ended : (last_job last_job' : Option Job) (own : Passes Job JobReply) (left : C) (n : ℕ) → last_job ≡ last_job' → ∥ ((share : Part) × HasEnded does settings given last_job own left share (made_by calls_by n)) ∥₁
      → ∥ ((share : Part) × HasEnded does settings given last_job' own left share (made_by calls_by n)) ∥₁
  some_ended last_job last_job' own left n same h = subst (λ (j : Option Job). ∥ ((share : Part) × HasEnded does settings given j own left share (made_by calls_by n)) ∥₁) same h
