-- Each step keeps the rule of a history.
use Rattle.std.proofs.Common.{◌≡◌, ◌≢◌, ◌⊎◌, ℕ, zero, suc, ◌+◌, ◌≤◌, List, [], ◌∷◌, ◌++◌, length, set, true, false, true≢false, refl, sym, ap, ◌∙◌, subst, inl, inr, ⊎_elim, arith}
use mathlib.Core.Option.{some, some-ne-none, some-injective}
use mathlib.Core.List.{IsPrefix}
use lib.ListN.{get_elem?}
use Rattle.atomic_table.specs.Table.{Allows, Splits, Joins, keeps}
use Rattle.atomic_table.proofs.Lists.{at_set}
use Rattle.shared_history.specs.declared.views.View.{View}
use Rattle.shared_history.specs.Views.{own, tagged, whole_log, thread_log, nobody, both, Fits, Apart, AllFit, AllApart, Kept, Extends}
use Rattle.shared_history.proofs.Logs.{prefix_self, prefix_more, own-mine, own-theirs}

off : false ≡ true → ⊥
off e = true≢false (sym e)

module _ {E : Type 0} where
  apart_sym : (v w : View E) → Apart v w → Apart w v
  apart_sym v w a = record { keeps = λ p q. a.keeps q p; signs = λ p q e. a.signs q p (sym e) }

  nobody_fits : (log : List (ℕ × E)) (given : ℕ) → Fits log given nobody
  nobody_fits log given = record { whole = λ e. absurd (off e); begins = λ e. absurd (off e); own_is = λ e. absurd (off e); below = λ e. absurd (off e) }

  nobody_apart : (v : View E) → Apart nobody v
  nobody_apart v = record { keeps = λ e _. absurd (off e); signs = λ e _. absurd (off e) }

  -- ---- the start

  pub begins : Kept {E = E} (whole_log [] 0 ∷ [])
  begins = record { log = []; given = 0; fresh = λ i le. refl; fit = one; apart = alone }
    where
      one : AllFit {E = E} [] 0 (whole_log [] 0 ∷ [])
      one zero v e = subst (Fits [] 0) (some-injective _ _ e) (record { whole = λ _. (refl, refl); begins = λ e. absurd (off e); own_is = λ e. absurd (off e); below = λ e. absurd (off e) })
      one (suc j) v e = absurd (some-ne-none v (sym e))

      alone : AllApart {E = E} (whole_log [] 0 ∷ [])
      alone zero zero v w ne e f = absurd (ne refl)
      alone zero (suc k) v w ne e f = absurd (some-ne-none w (sym f))
      alone (suc j) k v w ne e f = absurd (some-ne-none v (sym e))

  -- ---- one view changes

  fit_set : (log log' : List (ℕ × E)) (given given' : ℕ) (views : List (View E)) (id : ℕ) (w : View E)
      → ((j : ℕ) (u : View E) → j ≢ id → get_elem? views j ≡ some u → Fits log' given' u) → Fits log' given' w → AllFit log' given' (set views id w)
  fit_set log log' given given' views id w others mine j u e =
      ⊎_elim (λ (x : (j ≡ id) × (w ≡ u)). subst (Fits log' given') x.1 mine) (λ (x : (j ≢ id) × (get_elem? views j ≡ some u)). others j u x.0 x.1) (at_set views id j w u e)

  abbrev Placed : List (View E) → ℕ → View E → ℕ → View E → Type 0
  Placed views id w j u = ((j ≡ id) × (w ≡ u)) ⊎ ((j ≢ id) × (get_elem? views j ≡ some u))

  apart_in : (views : List (View E)) (id : ℕ) (w : View E) → AllApart views → ((j : ℕ) (u : View E) → j ≢ id → get_elem? views j ≡ some u → Apart w u)
      → (j k : ℕ) (u x : View E) → j ≢ k → Placed views id w j u → Placed views id w k x → Apart u x
  apart_in views id w all mine j k u x ne (inl a) (inl b) = absurd (ne (a.0 ∙ sym b.0))
  apart_in views id w all mine j k u x ne (inl a) (inr b) = subst (λ (y : View E). Apart y x) a.1 (mine k x b.0 b.1)
  apart_in views id w all mine j k u x ne (inr a) (inl b) = apart_sym x u (subst (λ (y : View E). Apart y u) b.1 (mine j u a.0 a.1))
  apart_in views id w all mine j k u x ne (inr a) (inr b) = all j k u x ne a.1 b.1

  apart_set : (views : List (View E)) (id : ℕ) (w : View E) → AllApart views → ((j : ℕ) (u : View E) → j ≢ id → get_elem? views j ≡ some u → Apart w u) → AllApart (set views id w)
  apart_set views id w all mine j k u x ne e f = apart_in views id w all mine j k u x ne (at_set views id j w u e) (at_set views id k w x f)

  -- ---- the whole log and that of a thread gain entries

  pub adds : (slots id i : ℕ) (me : View E × List (ℕ × ℕ)) (es : List E) → me.0.keeps ≡ true → me.0.signs ≡ true
      → Allows {S = ℕ} (λ s. Kept s.views) slots id me i (λ n. n) (λ _ w. Extends es me.0 w.0 × (w.1 ≡ me.1))
  adds slots id i me es ks sg s kept count at room =
      let v = me.0 in
      let log' = kept.log ++ tagged v.by es in
      let w : View E = record v { log = v.log ++ tagged v.by es; seen = v.log ++ tagged v.by es; mine = v.mine ++ es } in
      let f = kept.fit id v at in
      let is : v.log ≡ kept.log = (f.whole ks).0 in
      let given : v.given ≡ kept.given = (f.whole ks).1 in
      let grown : v.log ++ tagged v.by es ≡ log' = ap (λ (l : List (ℕ × E)). l ++ tagged v.by es) is in
      let own' : own v.by (v.log ++ tagged v.by es) ≡ v.mine ++ es = own-mine v.by v.log es v.mine (ap (own v.by) is ∙ f.own_is sg) in
      let w_fits : Fits log' kept.given w = record {
        whole = λ _. (grown, given);
        begins = λ _. subst (λ (l : List (ℕ × E)). IsPrefix (v.log ++ tagged v.by es) l) grown (prefix_self (v.log ++ tagged v.by es));
        own_is = λ _. ap (own v.by) (sym grown) ∙ own';
        below = λ _. f.below sg;
      } in
      let others : (j : ℕ) (u : View E) → j ≢ id → get_elem? s.views j ≡ some u → Fits log' kept.given u = λ j u ne e.
      let g = kept.fit j u e in
      let a = kept.apart id j v u (λ same. ne (sym same)) at e in
      record {
        whole = λ k. absurd (a.keeps ks k);
        begins = λ k. prefix_more u.seen kept.log (tagged v.by es) (g.begins k);
        own_is = λ k. own-theirs u.by v.by kept.log es u.mine (a.signs sg k) (g.own_is k);
        below = λ k. g.below k;
      } in
      let next : Kept (set s.views id w) = record {
        log = log';
        given = kept.given;
        fresh = λ j le. own-theirs j v.by kept.log es [] (λ e. let b = f.below sg in absurd (omega (arith, e, b, le))) (kept.fresh j le);
        fit = fit_set kept.log log' kept.given kept.given s.views id w others w_fits;
        apart = apart_set s.views id w kept.apart (λ j u ne e. let a = kept.apart id j v u (λ same. ne (sym same)) at e in record { keeps = λ p q. a.keeps p q; signs = λ p q. a.signs p q });
      } in
      let told : Extends es v w = record {
        log = refl;
        given = refl;
        by = refl;
        seen = refl;
        mine = refl;
        keeps = ks;
        signs = sg;
        begins = subst (λ (l : List (ℕ × E)). IsPrefix v.seen l) (sym is) (f.begins sg);
        own_is = ap (own v.by) is ∙ f.own_is sg;
        own_new = own';
        fresh = λ j le. ap (own j) grown ∙ next.fresh j (omega (arith, given, le));
      } in
      (w, keeps, tt, next, (told, refl))

  -- ---- they are brought together, and separated

  abbrev Stands : List (View E) → ℕ → View E → ℕ → ℕ → View E → Type 0
  Stands views id b other j u = ((j ≡ other) × (nobody ≡ u)) ⊎ (((j ≡ id) × (b ≡ u)) ⊎ ((j ≢ other) × ((j ≢ id) × (get_elem? views j ≡ some u))))

  stands : (views : List (View E)) (id : ℕ) (b : View E) (other j : ℕ) (u : View E) → get_elem? (set (set views id b) other nobody) j ≡ some u → Stands views id b other j u
  stands views id b other j u e =
      ⊎_elim (λ (x : (j ≡ other) × (nobody ≡ u)). inl x)
      (λ (x : (j ≢ other) × (get_elem? (set views id b) j ≡ some u)). ⊎_elim (λ (y : (j ≡ id) × (b ≡ u)). inr (inl y)) (λ (y : (j ≢ id) × (get_elem? views j ≡ some u)). inr (inr (x.0, y))) (at_set views id j b u x.1))
      (at_set (set views id b) other j nobody u e)

  apart_met : (views : List (View E)) (id : ℕ) (b : View E) (other : ℕ) → AllApart views → ((j : ℕ) (u : View E) → j ≢ other → j ≢ id → get_elem? views j ≡ some u → Apart b u)
      → (j k : ℕ) (u x : View E) → j ≢ k → Stands views id b other j u → Stands views id b other k x → Apart u x
  apart_met views id b other all mine j k u x ne (inl p) q = subst (λ (y : View E). Apart y x) p.1 (nobody_apart x)
  apart_met views id b other all mine j k u x ne (inr p) (inl q) = apart_sym x u (subst (λ (y : View E). Apart y u) q.1 (nobody_apart u))
  apart_met views id b other all mine j k u x ne (inr (inl p)) (inr (inl q)) = absurd (ne (p.0 ∙ sym q.0))
  apart_met views id b other all mine j k u x ne (inr (inl p)) (inr (inr q)) = subst (λ (y : View E). Apart y x) p.1 (mine k x q.0 q.1.0 q.1.1)
  apart_met views id b other all mine j k u x ne (inr (inr p)) (inr (inl q)) = apart_sym x u (subst (λ (y : View E). Apart y u) q.1 (mine j u p.0 p.1.0 p.1.1))
  apart_met views id b other all mine j k u x ne (inr (inr p)) (inr (inr q)) = all j k u x ne p.1.1 q.1.1

  fits_met : (views : List (View E)) (id : ℕ) (b : View E) (other : ℕ) (log : List (ℕ × E)) (given : ℕ) → AllFit log given views → Fits log given b → (j : ℕ) (u : View E) → Stands views id b other j u → Fits log given u
  fits_met views id b other log given all mine j u (inl p) = subst (Fits log given) p.1 (nobody_fits log given)
  fits_met views id b other log given all mine j u (inr (inl p)) = subst (Fits log given) p.1 mine
  fits_met views id b other log given all mine j u (inr (inr p)) = all j u p.1.1

  pub meets : (id : ℕ) (v : View E) (other : ℕ) (w : View E) → Joins {S = ℕ} (λ s. Kept s.views) id v other w (both v w) nobody
  meets id v other w s kept at away there =
      let b = both v w in
      let there' : get_elem? s.views other ≡ some w = ⊎_elim (λ (x : (other ≡ id) × (b ≡ w)). absurd (away x.0)) (λ (x : (other ≢ id) × (get_elem? s.views other ≡ some w)). x.1) (at_set s.views id other b w there) in
      let f = kept.fit id v at in
      let g = kept.fit other w there' in
      let b_fits : Fits kept.log kept.given b = record { whole = f.whole; begins = g.begins; own_is = g.own_is; below = g.below } in
      let b_apart : (j : ℕ) (u : View E) → j ≢ other → j ≢ id → get_elem? s.views j ≡ some u → Apart b u = λ j u no ni e.
      let a = kept.apart id j v u (λ same. ni (sym same)) at e in
      let c = kept.apart other j w u (λ same. no (sym same)) there' e in
      record { keeps = λ p q. a.keeps p q; signs = λ p q. c.signs p q } in
      record {
        log = kept.log;
        given = kept.given;
        fresh = kept.fresh;
        fit = λ j u e. fits_met s.views id b other kept.log kept.given kept.fit b_fits j u (stands s.views id b other j u e);
        apart = λ j k u x ne e h. apart_met s.views id b other kept.apart b_apart j k u x ne (stands s.views id b other j u e) (stands s.views id b other k x h);
      }

  -- ---- a view is split in two

  abbrev Ends : List (View E) → View E → ℕ → View E → Type 0
  Ends l r j u = (get_elem? l j ≡ some u) ⊎ ((j ≡ length l) × (r ≡ u))

  at_end : (l : List (View E)) (r : View E) (j : ℕ) (u : View E) → get_elem? (l ++ r ∷ []) j ≡ some u → Ends l r j u
  at_end [] r zero u e = inr (refl, some-injective r u e)
  at_end [] r (suc j) u e = absurd (some-ne-none u (sym e))
  at_end (x ∷ xs) r zero u e = inl e
  at_end (x ∷ xs) r (suc j) u e = ⊎_elim (λ p. inl p) (λ (p : (j ≡ length xs) × (r ≡ u)). inr (ap suc p.0, p.1)) (at_end xs r j u e)

  fits_end : (l : List (View E)) (r : View E) (log : List (ℕ × E)) (given : ℕ) → AllFit log given l → Fits log given r → (j : ℕ) (u : View E) → Ends l r j u → Fits log given u
  fits_end l r log given all mine j u (inl p) = all j u p
  fits_end l r log given all mine j u (inr p) = subst (Fits log given) p.1 mine

  apart_end : (l : List (View E)) (r : View E) → AllApart l → ((j : ℕ) (u : View E) → get_elem? l j ≡ some u → Apart r u) → (j k : ℕ) (u x : View E) → j ≢ k → Ends l r j u → Ends l r k x → Apart u x
  apart_end l r all mine j k u x ne (inl p) (inl q) = all j k u x ne p q
  apart_end l r all mine j k u x ne (inl p) (inr q) = apart_sym x u (subst (λ (y : View E). Apart y u) q.1 (mine j u p))
  apart_end l r all mine j k u x ne (inr p) (inl q) = subst (λ (y : View E). Apart y x) p.1 (mine k x q)
  apart_end l r all mine j k u x ne (inr p) (inr q) = absurd (ne (p.0 ∙ sym q.0))

  -- the split keeps the rule if both halves fit, and are distinct from each other and from all others
  cuts : (views : List (View E)) (id : ℕ) (v l r : View E) (log : List (ℕ × E)) (given : ℕ) → ((i : ℕ) → given ≤ i → own i log ≡ []) → ((j : ℕ) (u : View E) → j ≢ id → get_elem? views j ≡ some u → Fits log given u) → AllApart views → get_elem? views id ≡ some v
      → Fits log given l → Fits log given r → Apart r l
      → ((j : ℕ) (u : View E) → j ≢ id → get_elem? views j ≡ some u → Apart l u) → ((j : ℕ) (u : View E) → j ≢ id → get_elem? views j ≡ some u → Apart r u)
      → Kept (set views id l ++ r ∷ [])
  cuts views id v l r log given fresh fit apart at lf rf rl la ra =
      let all = fit_set log log given given views id l fit lf in
      let alone = apart_set views id l apart la in
      let right : (j : ℕ) (u : View E) → get_elem? (set views id l) j ≡ some u → Apart r u = λ j u e.
      ⊎_elim (λ (x : (j ≡ id) × (l ≡ u)). subst (λ (y : View E). Apart r y) x.1 rl) (λ (x : (j ≢ id) × (get_elem? views j ≡ some u)). ra j u x.0 x.1) (at_set views id j l u e) in
      record {
        log = log;
        given = given;
        fresh = fresh;
        fit = λ j u e. fits_end (set views id l) r log given all rf j u (at_end (set views id l) r j u e);
        apart = λ j k u x ne e h. apart_end (set views id l) r alone right j k u x ne (at_end (set views id l) r j u e) (at_end (set views id l) r k x h);
      }

  pub parts : (id : ℕ) (v : View E) → v.keeps ≡ true → v.signs ≡ true → Splits {S = ℕ} (λ s. Kept s.views) id v (whole_log v.log v.given) (thread_log v.by v.seen v.mine)
  parts id v ks sg s kept at =
      let f = kept.fit id v at in
      let l : View E = whole_log v.log v.given in
      let r : View E = thread_log v.by v.seen v.mine in
      let lf : Fits kept.log kept.given l = record { whole = λ _. f.whole ks; begins = λ e. absurd (off e); own_is = λ e. absurd (off e); below = λ e. absurd (off e) } in
      let rf : Fits kept.log kept.given r = record { whole = λ e. absurd (off e); begins = λ _. f.begins sg; own_is = λ _. f.own_is sg; below = λ _. f.below sg } in
      let rl : Apart r l = record { keeps = λ p q. absurd (off p); signs = λ p q. absurd (off q) } in
      let la : (j : ℕ) (u : View E) → j ≢ id → get_elem? s.views j ≡ some u → Apart l u = λ j u ne e.
      let a = kept.apart id j v u (λ same. ne (sym same)) at e in record { keeps = λ p q. a.keeps ks q; signs = λ p q. absurd (off p) } in
      let ra : (j : ℕ) (u : View E) → j ≢ id → get_elem? s.views j ≡ some u → Apart r u = λ j u ne e.
      let a = kept.apart id j v u (λ same. ne (sym same)) at e in record { keeps = λ p q. absurd (off p); signs = λ p q. a.signs sg q } in
      cuts s.views id v l r kept.log kept.given kept.fresh (λ j u ne e. kept.fit j u e) kept.apart at lf rf rl la ra

  -- one more thread gets the next index: nothing in the log is its own
  pub enters : (id : ℕ) (v : View E) → v.keeps ≡ true → Splits {S = ℕ} (λ s. Kept s.views) id v (whole_log v.log (v.given + 1)) (thread_log v.given v.log [])
  enters id v ks s kept at =
      let f = kept.fit id v at in
      let is = (f.whole ks).0 in
      let gv : v.given ≡ kept.given = (f.whole ks).1 in
      let more = kept.given + 1 in
      let l : View E = whole_log v.log (v.given + 1) in
      let r : View E = thread_log v.given v.log [] in
      let lf : Fits kept.log more l = record { whole = λ _. (is, ap (λ k. k + 1) gv); begins = λ e. absurd (off e); own_is = λ e. absurd (off e); below = λ e. absurd (off e) } in
      let rf : Fits kept.log more r = record {
        whole = λ e. absurd (off e);
        begins = λ _. subst (λ (w : List (ℕ × E)). IsPrefix v.log w) is (prefix_self v.log);
        own_is = λ _. ap (λ i. own i kept.log) gv ∙ kept.fresh kept.given (omega arith);
        below = λ _. omega (arith, gv);
      } in
      let rl : Apart r l = record { keeps = λ p q. absurd (off p); signs = λ p q. absurd (off q) } in
      let la : (j : ℕ) (u : View E) → j ≢ id → get_elem? s.views j ≡ some u → Apart l u = λ j u ne e.
      let a = kept.apart id j v u (λ same. ne (sym same)) at e in record { keeps = λ p q. a.keeps ks q; signs = λ p q. absurd (off p) } in
      let ra : (j : ℕ) (u : View E) → j ≢ id → get_elem? s.views j ≡ some u → Apart r u = λ j u ne e.
      let b = kept.fit j u e in record { keeps = λ p q. absurd (off p); signs = λ p q same. let c = b.below q in absurd (omega (arith, same, c, gv)) } in
      let wider : (j : ℕ) (u : View E) → j ≢ id → get_elem? s.views j ≡ some u → Fits kept.log more u = λ j u ne e.
      let b = kept.fit j u e in
      let a = kept.apart id j v u (λ same. ne (sym same)) at e in
      record { whole = λ k. absurd (a.keeps ks k); begins = b.begins; own_is = b.own_is; below = λ q. let c = b.below q in omega (arith, c) } in
      cuts s.views id v l r kept.log more (λ i le. kept.fresh i (omega (arith, le))) wider kept.apart at lf rf rl la ra
