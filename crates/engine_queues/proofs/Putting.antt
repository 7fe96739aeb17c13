-- The steps of combining: what was combined, and what is still to come.
use Rattle.std.proofs.Common.{◌≡◌, ℕ, suc, ◌+◌, List, [], ◌∷◌, ◌++◌, length, refl, sym, ap, ◌∙◌, subst, append_assoc, append-nil, arith}
use Rattle.std.specs.List.{flat_map, range_with_len}
use Rattle.std.proofs.lemmas.List.Concat.{flat_map-cons}
use Rattle.engine_queues.specs.Jobs.{Accounts}
use Rattle.engine_queues.specs.Replies.{IsWhole}
use Rattle.engine_queues.specs.declared.replies.QueuedReply.{QueuedReply}

module _ {X : Type 0} where
  pub none_of : (xs : List X) → length xs ≡ 0 → xs ≡ []
  none_of [] e = refl
  none_of (x ∷ xs) e = absurd (omega arith)

  pub front_none : (xs ys : List X) → length xs ≡ 0 → xs ++ ys ≡ ys
  front_none xs ys e = ap (λ l. l ++ ys) (none_of xs e)

  pub back_none : (xs ys : List X) → length ys ≡ 0 → xs ++ ys ≡ xs
  back_none xs ys e = ap (λ l. xs ++ l) (none_of ys e) ∙ append-nil xs

  pub one_more : (xs : List X) (x : X) (more all : List X) → xs ++ x ∷ more ≡ all → (xs ++ x ∷ []) ++ more ≡ all
  one_more xs x more all e = append_assoc xs (x ∷ []) more ∙ e

  pub some_more : (xs gained : List X) (more : List (List X)) (all : List X) → xs ++ flat_map (λ ys. ys) (gained ∷ more) ≡ all → (xs ++ gained) ++ flat_map (λ ys. ys) more ≡ all
  some_more xs gained more all e = append_assoc xs gained (flat_map (λ ys. ys) more) ∙ (ap (λ l. xs ++ l) (sym (flat_map-cons (λ ys. ys) gained more)) ∙ e)

abbrev rest_of : List ℕ → List ℕ
rest_of [] = []
rest_of (n ∷ ns) = ns

pub next_numbers : (n : ℕ) (ns : List ℕ) (from from' len len' : ℕ) → n ∷ ns ≡ range_with_len from len → len ≡ suc len' → from' ≡ from + 1 → ns ≡ range_with_len from' len'
next_numbers n ns from from' len len' e l f = ap rest_of (e ∙ ap (range_with_len from) l) ∙ ap (λ k. range_with_len k len') (sym f)

pub all_accounts : {J : Type 0} (put taken put' taken' left : List J) → put' ≡ put → taken' ≡ taken → Accounts put' taken' left → Accounts put taken left
all_accounts {J} put taken put' taken' left p t a = subst (λ (y : List J × List J). Accounts y.0 y.1 left) (λ i. (p i, t i)) a

pub all_whole : {M : Type 0} (puts puts' : List (List (QueuedReply M))) (got got' left : List (QueuedReply M)) → puts' ≡ puts → got' ≡ got → IsWhole puts' got' left → IsWhole puts got left
all_whole {M} puts puts' got got' left p g w = subst (λ (y : List (List (QueuedReply M)) × List (QueuedReply M)). IsWhole y.0 y.1 left) (λ i. (p i, g i)) w

-- at the end
module _ {X : Type 0} where
  pub ended_some : (xs : List X) (more : List (List X)) (all : List X) → length more ≡ 0 → xs ++ flat_map (λ ys. ys) more ≡ all → xs ≡ all
  ended_some xs more all none e = sym (append-nil xs) ∙ (ap (λ (l : List (List X)). xs ++ flat_map (λ ys. ys) l) (sym (none_of more none)) ∙ e)

  pub ended_one : (xs more all : List X) → length more ≡ 0 → xs ++ more ≡ all → xs ≡ all
  ended_one xs more all none e = sym (back_none xs more none) ∙ e
