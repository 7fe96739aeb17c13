-- What the lengths alone say: where as many were got as were put, nothing is left.
use Rattle.std.proofs.Common.{◌≡◌, ◌≢◌, ℕ, zero, suc, ◌+◌, ◌<◌, ◌≤◌, Bool, true, false, true≢false, List, [], ◌∷◌, ◌++◌, length, sym, refl, ap, ◌∙◌, ⊎_elim, eqb, eq-eqb, arith, length-append, lt_of_not-le}
use Rattle.std.proofs.lemmas.Bool.{ne_eqb}
use Rattle.std.proofs.Math.Nat.{eq-or-lt_of_le}
use Rattle.std.specs.List.{flat_map}
use Rattle.engine_queues.specs.Totals.{total}
use Rattle.engine_queues.specs.Jobs.{numbers, one_if, Accounts, AreTaken}
use Rattle.engine_queues.specs.Replies.{keep, of, nth, IsWhole, AreGot}
use Rattle.engine_queues.specs.declared.replies.QueuedReply.{QueuedReply}
use Rattle.engine_queues.proofs.Putting.{none_of, back_none}
use Rattle.engine_queues.proofs.ReplySteps.{nth_past}

-- sums over the n numbers from a on
pub counted_none : (f : ℕ → ℕ) (a n : ℕ) → ((k : ℕ) → a ≤ k → k < a + n → f k ≡ 0) → total f (numbers a n) ≡ 0
counted_none f a zero none = refl
counted_none f a (suc n) none = let here = none a (omega arith) (omega arith) in let rest = counted_none f (a + 1) n (λ k low below. none k (omega arith) (omega arith)) in omega arith

pub counted_once : (f : ℕ → ℕ) (x : ℕ) → f x ≡ 1 → ((k : ℕ) → k ≢ x → f k ≡ 0) → (a n : ℕ) → a ≤ x → x < a + n → total f (numbers a n) ≡ 1
counted_once f x one others a zero from below = absurd (omega arith)
counted_once f x one others a (suc n) from below = ⊎_elim
    (λ (is : a ≡ x). let here : f a ≡ 1 = ap f is ∙ one in let rest = counted_none f (a + 1) n (λ k low below. others k (λ e. absurd (omega arith))) in omega arith)
    (λ (lt : a < x). let here = others a (λ e. absurd (omega arith)) in let rest = counted_once f x one others (a + 1) n (omega arith) (omega arith) in omega arith)
    (eq-or-lt_of_le from)

sum_of_sums : (f g h : ℕ → ℕ) → ((k : ℕ) → h k ≡ f k + g k) → (ks : List ℕ) → total h ks ≡ total f ks + total g ks
sum_of_sums f g h each [] = refl
sum_of_sums f g h each (k ∷ ks) = let here = each k in let rest = sum_of_sums f g h each ks in omega arith

shifted : (f : ℕ → ℕ) (a n : ℕ) → total f (numbers (a + 1) n) ≡ total (λ k. f (suc k)) (numbers a n)
shifted f a zero = refl
shifted f a (suc n) = let here : f (a + 1) ≡ f (suc a) = ap f (omega arith) in let rest = shifted f (a + 1) n in omega arith

total_same : (f g : ℕ → ℕ) → ((k : ℕ) → f k ≡ g k) → (ks : List ℕ) → total f ks ≡ total g ks
total_same f g each [] = refl
total_same f g each (k ∷ ks) = let here = each k in let rest = total_same f g each ks in omega arith

module _ {J : Type 0} where
  ones : (js : List J) → total (λ j. 1) js ≡ length js
  ones [] = refl
  ones (j ∷ js) = let rest = ones js in omega arith

  pub all_taken : (put taken left : List J) → length put ≡ length taken → Accounts put taken left → AreTaken put taken
  all_taken put taken left many accounts h =
      let a = accounts (λ j. 1) in
      let p = ones put in
      let t = ones taken in
      let l = ones left in
      let none : total h left ≡ 0 = ap (total h) (none_of left (omega arith)) in
      let all = accounts h in
      omega arith

module _ {M : Type 0} where
  length_keep : (b : Bool) (r : QueuedReply M) (rs : List (QueuedReply M)) → length (keep b r rs) ≡ one_if b + length rs
  length_keep true r rs = omega arith
  length_keep false r rs = omega arith

  kept_none : (b : Bool) (r : QueuedReply M) (rs : List (QueuedReply M)) → keep b r rs ≡ [] → (b ≡ false) × (rs ≡ [])
  kept_none true r rs e = absurd (let l : suc (length rs) ≡ 0 = ap length e in omega arith)
  kept_none false r rs e = (refl, e)

  -- replies that are all from senders below n are as many as those of each of these senders together
  of_all : (n : ℕ) (rs : List (QueuedReply M)) → ((p : ℕ) → n ≤ p → of p rs ≡ []) → total (λ p. length (of p rs)) (numbers 0 n) ≡ length rs
  of_all n [] none = counted_none (λ p. 0) 0 n (λ k low below. refl)
  of_all n (r ∷ rs) none =
      let own : ℕ → ℕ = λ p. one_if (eqb r.from p) in
      let rest : ℕ → ℕ = λ p. length (of p rs) in
      let apart = sum_of_sums own rest (λ p. length (keep (eqb r.from p) r (of p rs))) (λ p. length_keep (eqb r.from p) r (of p rs)) (numbers 0 n) in
      let below : r.from < n = lt_of_not-le (λ le. true≢false (sym (eq-eqb r.from r.from refl) ∙ (kept_none (eqb r.from r.from) r (of r.from rs) (none r.from le)).0)) in
      let one = counted_once own r.from (ap one_if (eq-eqb r.from r.from refl)) (λ k n. ap one_if (ne_eqb r.from k (λ e. n (sym e)))) 0 n (omega arith) (omega arith) in
      let others = of_all n rs (λ p le. (kept_none (eqb r.from p) r (of p rs) (none p le)).1) in
      omega arith

  all_put : (puts : List (List (QueuedReply M))) → total (λ p. length (nth puts p)) (numbers 0 (length puts)) ≡ length (flat_map (λ rs. rs) puts)
  all_put [] = refl
  all_put (l ∷ ls) =
      let later = shifted (λ p. length (nth (l ∷ ls) p)) 0 (length ls) in
      let rest = all_put ls in
      let joined = length-append l (flat_map (λ rs. rs) ls) in
      omega arith

  pub all_got : (puts : List (List (QueuedReply M))) (got left : List (QueuedReply M)) → length got ≡ length (flat_map (λ rs. rs) puts) → IsWhole puts got left → AreGot puts got
  all_got puts got left many whole p =
      let n = length puts in
      let all = of_all n (got ++ left) (λ q le. whole q ∙ nth_past puts q le) in
      let same = total_same (λ q. length (of q (got ++ left))) (λ q. length (nth puts q)) (λ q. ap length (whole q)) (numbers 0 n) in
      let put = all_put puts in
      let joined = length-append got left in
      let none : length left ≡ 0 = omega arith in
      ap (of p) (sym (back_none got left none)) ∙ whole p
