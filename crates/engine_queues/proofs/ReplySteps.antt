-- Each step keeps the rule of the reply queue.
use Rattle.std.proofs.Common.{◌≡◌, ◌≢◌, ℕ, zero, suc, ◌+◌, ◌<◌, ◌≤◌, Bool, true, false, true≢false, List, [], ◌∷◌, ◌++◌, length, set, sym, refl, ap, ◌∙◌, subst, ⊎_elim, ◌⊎◌, inl, inr, append_assoc, eqb, eq-eqb, arith, length-append, lt_of_not-le}
use Rattle.std.proofs.lemmas.Bool.{ne_eqb}
use mathlib.Core.Option.{some, some-injective, some-ne-none}
use lib.ListN.{get_elem?}
use native.Mathlib.Decide.{dec_le}
use Rattle.std.proofs.Math.Nat.{eq-or-lt_of_le}
use Rattle.crossbeam_channel.specs.Fifo.{Pushes, Pops, Forks, Merges, Learns}
use Rattle.atomic_table.proofs.Lists.{at_set}
use Rattle.engine_queues.specs.declared.replies.QueuedReply.{QueuedReply}
use Rattle.engine_queues.specs.declared.replies.ReplyLane.{ReplyLane}
use Rattle.engine_queues.specs.Replies.{writer, sender, idle, put_of, got_of, one_more, told, keep, of, nth, IsWhole, FitsSender, FitsWriter, Fits, Posted}

abbrev pick : Bool → ℕ → ℕ → ℕ
pick true a b = a
pick false a b = b

-- f, except that it is b at a
abbrev move : (ℕ → ℕ) → ℕ → ℕ → ℕ → ℕ
move f a b p = pick (eqb p a) b (f p)

move_here : (f : ℕ → ℕ) (a b p : ℕ) → p ≡ a → move f a b p ≡ b
move_here f a b p e = ap (λ t. pick t b (f p)) (eq-eqb p a e)

move_else : (f : ℕ → ℕ) (a b p : ℕ) → p ≢ a → move f a b p ≡ f p
move_else f a b p n = ap (λ t. pick t b (f p)) (ne_eqb p a n)

module _ {M : Type 0} where
  keep_append : (b : Bool) (r : QueuedReply M) (xs ys : List (QueuedReply M)) → keep b r xs ++ ys ≡ keep b r (xs ++ ys)
  keep_append true r xs ys = refl
  keep_append false r xs ys = refl

  pub of_append : (p : ℕ) (xs ys : List (QueuedReply M)) → of p (xs ++ ys) ≡ of p xs ++ of p ys
  of_append p [] ys = refl
  of_append p (r ∷ xs) ys = ap (keep (eqb r.from p) r) (of_append p xs ys) ∙ sym (keep_append (eqb r.from p) r (of p xs) (of p ys))

  of_own : (p : ℕ) (r : QueuedReply M) → r.from ≡ p → of p (r ∷ []) ≡ r ∷ []
  of_own p r e = ap (λ b. keep b r []) (eq-eqb r.from p e)

  of_other : (p q : ℕ) (r : QueuedReply M) → r.from ≡ p → q ≢ p → of q (r ∷ []) ≡ []
  of_other p q r e n = ap (λ b. keep b r []) (ne_eqb r.from q (λ s. n (sym s ∙ e)))

  append_nil : (xs : List (QueuedReply M)) → xs ++ [] ≡ xs
  append_nil [] = refl
  append_nil (x ∷ xs) = ap (λ l. x ∷ l) (append_nil xs)

  nth_before : (ls : List (List (QueuedReply M))) (l : List (QueuedReply M)) (k : ℕ) → k < length ls → nth (ls ++ l ∷ []) k ≡ nth ls k
  nth_before [] l k h = absurd (omega arith)
  nth_before (x ∷ ls) l zero h = refl
  nth_before (x ∷ ls) l (suc k) h = nth_before ls l k (omega arith)

  nth_last : (ls : List (List (QueuedReply M))) (l : List (QueuedReply M)) (k : ℕ) → k ≡ length ls → nth (ls ++ l ∷ []) k ≡ l
  nth_last [] l zero h = refl
  nth_last [] l (suc k) h = absurd (omega arith)
  nth_last (x ∷ ls) l zero h = absurd (omega arith)
  nth_last (x ∷ ls) l (suc k) h = nth_last ls l k (omega arith)

  pub nth_past : (ls : List (List (QueuedReply M))) (k : ℕ) → length ls ≤ k → nth ls k ≡ []
  nth_past [] k h = refl
  nth_past (x ∷ ls) zero h = absurd (omega arith)
  nth_past (x ∷ ls) (suc k) h = nth_past ls k (omega arith)

  abbrev All : (ℕ → ReplyLane M → Type 0) → List (ReplyLane M) → Type 0
  All F views = (port : ℕ) (v : ReplyLane M) → get_elem? views port ≡ some v → F port v

  all_set : (F : ℕ → ReplyLane M → Type 0) (views : List (ReplyLane M)) (port : ℕ) (w : ReplyLane M) → F port w → ((j : ℕ) (u : ReplyLane M) → j ≢ port → get_elem? views j ≡ some u → F j u) → All F (set views port w)
  all_set F views port w mine others j u e = ⊎_elim (λ (x : (j ≡ port) × (w ≡ u)). subst (λ (y : ℕ × ReplyLane M). F y.0 y.1) (λ i. (sym x.0 i, x.1 i)) mine)
      (λ (x : (j ≢ port) × (get_elem? views j ≡ some u)). others j u x.0 x.1) (at_set views port j w u e)

  -- an element of a longer list is an old one, or the new last one
  at_longer_end : (l : List (ReplyLane M)) (a b : ReplyLane M) (j : ℕ) → get_elem? (l ++ a ∷ []) j ≡ some b → (get_elem? l j ≡ some b) ⊎ ((j ≡ length l) × (a ≡ b))
  at_longer_end [] a b zero e = inr (refl, some-injective a b e)
  at_longer_end [] a b (suc j) e = absurd (some-ne-none b (sym e))
  at_longer_end (x ∷ xs) a b zero e = inl e
  at_longer_end (x ∷ xs) a b (suc j) e = ⊎_elim inl (λ t. inr (ap suc t.0, t.1)) (at_longer_end xs a b j e)

  pub begins : Posted {M = M} [] (writer [] 0 [] ∷ [])
  begins = (0, (λ p. 0), (λ p. []), [], (λ p. refl), all_set (Fits 0 (λ p. 0) (λ p. []) []) (writer [] 0 [] ∷ []) 0 (writer [] 0 []) ((λ s. absurd (true≢false (sym s))), λ _. (refl, refl, (λ p h. (refl, refl)), (λ k h. absurd (omega arith)), omega arith)) (λ j u other e. absurd (only j u other e))) where
    only : (j : ℕ) (u : ReplyLane M) → j ≢ 0 → get_elem? (writer [] 0 [] ∷ []) j ≡ some u → ⊥
    only zero u other e = other refl
    only (suc j) u other e = some-ne-none u (sym e)

  pub posts : (n port : ℕ) (v : ReplyLane M) (x : QueuedReply M) → v.sends ≡ true → x.from ≡ v.from → Pushes Posted n port v x (λ w. w ≡ put_of v x)
  posts n port v x may bears items views _ h at =
      let w = put_of v x in
      let gain : List (QueuedReply M) = x ∷ [] in
      let mine = (h.5 port v at).0 may in
      let sent : ℕ → List (QueuedReply M) = λ p. h.2 p ++ of p gain in
      let apart : (p : ℕ) → p ≢ v.from → sent p ≡ h.2 p = λ p n. ap (λ l. h.2 p ++ l) (of_other v.from p x bears n) ∙ append_nil (h.2 p) in
      let writes : (j : ℕ) (u : ReplyLane M) → FitsWriter h.0 h.1 h.2 h.3 j u → FitsWriter h.0 h.1 sent h.3 j u = λ j u f g. let o = f g in (
        o.0,
        o.1,
        (λ p le. let q = o.2 p le in (q.0, apart p (λ is. let z : h.1 v.from ≡ 0 = ap h.1 (sym is) ∙ q.0 in let s : h.1 v.from ≡ port + 1 = mine.0 in omega arith) ∙ q.1)),
        (λ k lt. let q = o.3 k lt in (q.0, q.1 ∙ sym (apart k (λ is. let z : h.1 v.from ≡ 0 = ap h.1 (sym is) ∙ q.0 in let s : h.1 v.from ≡ port + 1 = mine.0 in omega arith)))),
        o.4,
      ) in (
        w,
        (
          h.0,
          h.1,
          sent,
          h.3,
          (λ p. ap (of p) (sym (append_assoc h.3 items gain)) ∙ of_append p (h.3 ++ items) gain ∙ ap (λ l. l ++ of p gain) (h.4 p)),
          all_set (Fits h.0 h.1 sent h.3) views port w
              ((λ _. (mine.0, ap (λ l. l ++ gain) mine.1 ∙ ap (λ l. h.2 v.from ++ l) (sym (of_own v.from x bears)))), λ g. writes port v (h.5 port v at).1 g)
              (λ j u other e.
              let f = h.5 j u e in (
                (λ s. let o = f.0 s in (o.0, o.1 ∙ sym (apart u.from (λ is. other (let a : h.1 v.from ≡ j + 1 = ap h.1 (sym is) ∙ o.0 in let b : h.1 v.from ≡ port + 1 = mine.0 in omega arith))))),
                λ g. writes j u f.1 g,
              )),
        ),
        refl,
      )

  pub gets : (port : ℕ) (v : ReplyLane M) → v.gets ≡ true → Pops Posted port v (λ x w. w ≡ got_of v x)
  gets port v may x items views h at =
      let w = got_of v x in
      let gain : List (QueuedReply M) = x ∷ [] in
      let got = h.3 ++ gain in
      let mine = (h.5 port v at).1 may in (
        w,
        (
          h.0,
          h.1,
          h.2,
          got,
          (λ p. ap (of p) (append_assoc h.3 gain items) ∙ h.4 p),
          all_set (Fits h.0 h.1 h.2 got) views port w
              ((h.5 port v at).0, λ _. (mine.0, ap (λ l. l ++ gain) mine.1, mine.2, mine.3, mine.4))
              (λ j u other e. ((h.5 j u e).0, λ g. absurd (other (((h.5 j u e).1 g).0 ∙ sym mine.0)))),
        ),
        refl,
      )

  pub forks : (port : ℕ) (v : ReplyLane M) → v.gets ≡ true → Forks Posted port v (one_more v) (sender v.made [])
  forks port v may items views h at =
      let l : ReplyLane M = one_more v in
      let r : ReplyLane M = sender v.made [] in
      let vs = set views port l in
      let seat = move h.1 v.made (length vs + 1) in
      let mine = (h.5 port v at).1 may in
      let free = mine.2 v.made (omega arith) in
      let sends : (j : ℕ) (u : ReplyLane M) → FitsSender h.1 h.2 j u → FitsSender seat h.2 j u = λ j u f s. let o = f s in
      (move_else h.1 v.made (length vs + 1) u.from (λ is. let z : h.1 u.from ≡ 0 = ap h.1 is ∙ free.0 in let y : h.1 u.from ≡ j + 1 = o.0 in omega arith) ∙ o.0, o.1) in
      let old : All (Fits h.0 seat h.2 h.3) vs = all_set (Fits h.0 seat h.2 h.3) views port l (
        (λ s. sends port v (h.5 port v at).0 s),
        λ _. (
          mine.0,
          mine.1,
          (λ p le. let q = mine.2 p (omega arith) in (move_else h.1 v.made (length vs + 1) p (λ is. absurd (omega arith)) ∙ q.0, q.1)),
          (λ k lt. let q = mine.3 k lt in let within = mine.4 in (move_else h.1 v.made (length vs + 1) k (λ is. absurd (omega arith)) ∙ q.0, q.1)),
          (let within = mine.4 in omega arith),
        ),
      )
      (λ j u other e. ((λ s. sends j u (h.5 j u e).0 s), λ g. absurd (other (((h.5 j u e).1 g).0 ∙ sym mine.0)))) in (
        h.0,
        seat,
        h.2,
        h.3,
        h.4,
        λ j u e. ⊎_elim (λ x. old j u x)
            (λ (x : (j ≡ length vs) × (r ≡ u)). subst (λ (y : ℕ × ReplyLane M). Fits h.0 seat h.2 h.3 y.0 y.1) (λ i. (sym x.0 i, x.1 i))
            ((λ _. (move_here h.1 v.made (length vs + 1) v.made refl, sym free.1)), λ g. absurd (true≢false (sym g))))
            (at_longer_end vs r u j e),
      )

  pub merges : (port : ℕ) (v : ReplyLane M) (other : ℕ) (u : ReplyLane M) → v.gets ≡ true → u.sends ≡ true → u.from ≡ length v.known → Merges Posted port v other u (told v u) idle
  merges port v other u a b next items views h at two at' =
      let both = told v u in
      let vs = set views port both in
      let seat = move h.1 u.from 0 in
      let mine = (h.5 port v at).1 a in
      let was : get_elem? views other ≡ some u = ⊎_elim (λ x. absurd (two x.0)) (λ x. x.1) (at_set views port other both u at') in
      let theirs = (h.5 other u was).0 b in
      let more : length v.known < v.made = more_made (length v.known) v.made (h.1 u.from) (other + 1) (λ le. ap h.1 next ∙ (mine.2 (length v.known) le).0) theirs.0 (omega arith) in
      let sends : (j : ℕ) (y : ReplyLane M) → j ≢ other → FitsSender h.1 h.2 j y → FitsSender seat h.2 j y = λ j y n f s. let o = f s in
      (move_else h.1 u.from 0 y.from (λ is. n (let p : h.1 u.from ≡ j + 1 = ap h.1 (sym is) ∙ o.0 in let q : h.1 u.from ≡ other + 1 = theirs.0 in omega arith)) ∙ o.0, o.1) in
      let Now : ℕ → ReplyLane M → Type 0 = λ j y. j ≢ other → Fits h.0 seat h.2 h.3 j y in
      let now : All Now vs = all_set Now views port both
      (λ n. (
        (λ s. sends port v n (h.5 port v at).0 s),
        λ _. (
          mine.0,
          mine.1,
          (λ p le. let q = mine.2 p le in (move_else h.1 u.from 0 p (λ is. absurd (omega arith)) ∙ q.0, q.1)),
          (λ k lt. knows v.known u.put k h.1 h.2 u.from next (omega (arith, length-append v.known (u.put ∷ []))) mine.3 theirs.1),
          omega (arith, length-append v.known (u.put ∷ [])),
        ),
      ))
      (λ j y other' e n. ((λ s. sends j y n (h.5 j y e).0 s), λ g. absurd (other' (((h.5 j y e).1 g).0 ∙ sym mine.0)))) in (
        h.0,
        seat,
        h.2,
        h.3,
        h.4,
        all_set (Fits h.0 seat h.2 h.3) vs other idle ((λ p. absurd (true≢false (sym p))), λ p. absurd (true≢false (sym p))) (λ j y apart e. now j y e apart),
      ) where
        more_made : (known made s t : ℕ) → (made ≤ known → s ≡ 0) → s ≡ t → 0 < t → known < made
        more_made known made s t none is some_seat = lt_of_not-le (λ le. let z : s ≡ 0 = none le in omega arith)

        knows : (known : List (List (QueuedReply M))) (put : List (QueuedReply M)) (k : ℕ) (f : ℕ → ℕ) (sent : ℕ → List (QueuedReply M)) (from : ℕ) → from ≡ length known → k < length known + 1 → ((k : ℕ) → k < length known → (f k ≡ 0) × (nth known k ≡ sent k)) → put ≡ sent from → (move f from 0 k ≡ 0) × (nth (known ++ put ∷ []) k ≡ sent k)
        knows known put k f sent from next lt before is = ⊎_elim
            (λ (e : k ≡ length known). (move_here f from 0 k (e ∙ sym next), nth_last known put k e ∙ is ∙ ap sent (next ∙ sym e)))
            (λ (l : k < length known). let q = before k l in (move_else f from 0 k (λ s. absurd (omega arith)) ∙ q.0, nth_before known put k l ∙ q.1))
            (eq-or-lt_of_le (omega arith))

  pub learns : (port : ℕ) (v : ReplyLane M) → v.gets ≡ true → v.made ≡ length v.known → Learns Posted port v (λ items. IsWhole v.known v.got items)
  learns port v may all items views h at p =
      let mine = (h.5 port v at).1 may in
      ap (λ l. of p (l ++ items)) mine.1 ∙ h.4 p ∙ told_of (dec_le (length v.known) p) where
        told_of : Dec (length v.known ≤ p) → h.2 p ≡ nth v.known p
        told_of (yes le) = let mine = (h.5 port v at).1 may in let made : v.made ≤ p = (let a = all in omega arith) in (mine.2 p made).1 ∙ sym (nth_past v.known p le)
        told_of (no n) = let mine = (h.5 port v at).1 may in sym (mine.3 p (lt_of_not-le n)).1
