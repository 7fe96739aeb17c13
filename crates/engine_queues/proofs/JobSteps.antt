-- Each step keeps the rule of the job queue.
use Rattle.std.proofs.Common.{◌≡◌, ℕ, zero, suc, ◌+◌, ◌-◌, ◌<◌, List, [], ◌∷◌, ◌++◌, set, sym, refl, ap, ◌∙◌, ⊎_elim, arith}
use mathlib.Core.Option.{some, some-injective, some-ne-none}
use lib.ListN.{get_elem?}
use Rattle.crossbeam_channel.specs.Fifo.{Pushes, Pops, Forks, Merges, Learns}
use Rattle.atomic_table.proofs.Lists.{at_set, at_snoc}
use Rattle.engine_queues.specs.Totals.{total}
use Rattle.engine_queues.proofs.TotalsLemmas.{total_append, total_set, total_at}
use Rattle.engine_queues.specs.declared.jobs.Hand.{Hand}
use Rattle.engine_queues.specs.Jobs.{hand, put_of, taken_of, IdleIsEmpty, Accounts, Balanced}

module _ {J : Type 0} where
  idle_set : (views : List (Hand J)) (port : ℕ) (w : Hand J) → (w.parts ≡ 0 → (w.put ≡ []) × (w.taken ≡ [])) → IdleIsEmpty views → IdleIsEmpty (set views port w)
  idle_set views port w mine idle j u e none = ⊎_elim (λ x. let is = x.1 in let m = mine (ap (λ (y : Hand J). y.parts) is ∙ none) in (ap (λ (y : Hand J). y.put) (sym is) ∙ m.0, ap (λ (y : Hand J). y.taken) (sym is) ∙ m.1))
      (λ x. idle j u x.1 none) (at_set views port j w u e)

  pub begins : Balanced {J = J} [] (hand 8 [] [] ∷ [])
  begins = (refl, (λ h. refl), λ port v e none. only port v e none) where
    only : (port : ℕ) (v : Hand J) → get_elem? (hand 8 [] [] ∷ []) port ≡ some v → v.parts ≡ 0 → (v.put ≡ []) × (v.taken ≡ [])
    only zero v e none = let is : hand 8 [] [] ≡ v = some-injective (hand 8 [] []) v e in let p : 8 ≡ v.parts = ap (λ (y : Hand J). y.parts) is in absurd (omega arith)
    only (suc port) v e none = absurd (some-ne-none v (sym e))

  pub puts : (n port : ℕ) (v : Hand J) (x : J) → 0 < v.parts → Pushes Balanced n port v x (λ w. w ≡ put_of v x)
  puts n port v x some_part items views room b at =
      let w = put_of v x in (
        w,
        (
          (let s = total_set (λ (u : Hand J). u.parts) views port v w at in let p = b.0 in omega arith),
          (λ h.
              let s = total_set (λ (u : Hand J). total h u.put) views port v w at in
              let t = total_set (λ (u : Hand J). total h u.taken) views port v w at in
              let p = b.1 h in
              let a = total_append h v.put (x ∷ []) in
              let i = total_append h items (x ∷ []) in
              omega arith),
          idle_set views port w (λ none. absurd (omega arith)) b.2,
        ),
        refl,
      )

  pub takes : (port : ℕ) (v : Hand J) → 0 < v.parts → Pops Balanced port v (λ x w. w ≡ taken_of v x)
  takes port v some_part x items views b at =
      let w = taken_of v x in (
        w,
        (
          (let s = total_set (λ (u : Hand J). u.parts) views port v w at in let p = b.0 in omega arith),
          (λ h.
              let s = total_set (λ (u : Hand J). total h u.put) views port v w at in
              let t = total_set (λ (u : Hand J). total h u.taken) views port v w at in
              let p = b.1 h in
              let a = total_append h v.taken (x ∷ []) in
              let i = total_append h (x ∷ []) items in
              omega arith),
          idle_set views port w (λ none. absurd (omega arith)) b.2,
        ),
        refl,
      )

  pub forks : (port : ℕ) (v : Hand J) → 1 < v.parts → Forks Balanced port v (hand (v.parts - 1) v.put v.taken) (hand 1 [] [])
  forks port v two items views b at =
      let l = hand (v.parts - 1) v.put v.taken in let r = hand 1 [] [] in let vs = set views port l in (
        (let s = total_set (λ (u : Hand J). u.parts) views port v l at in let p = b.0 in let a = total_append (λ (u : Hand J). u.parts) vs (r ∷ []) in omega arith),
        (λ h.
            let s = total_set (λ (u : Hand J). total h u.put) views port v l at in
            let t = total_set (λ (u : Hand J). total h u.taken) views port v l at in
            let c = total_append (λ (u : Hand J). total h u.put) vs (r ∷ []) in
            let d = total_append (λ (u : Hand J). total h u.taken) vs (r ∷ []) in
            let p = b.1 h in omega arith),
        λ j u e none. ⊎_elim (λ x. idle_set views port l (λ zero_left. absurd (omega arith)) b.2 j u x none)
            (λ (is : r ≡ u). let p : 1 ≡ u.parts = ap (λ (y : Hand J). y.parts) is in absurd (omega arith)) (at_snoc vs r u j e),
      )

  pub merges : (port : ℕ) (v : Hand J) (other : ℕ) (u : Hand J) → 0 < v.parts → Merges Balanced port v other u (hand (v.parts + u.parts) (v.put ++ u.put) (v.taken ++ u.taken)) (hand 0 [] [])
  merges port v other u some_part items views b at two at' =
      let both = hand (v.parts + u.parts) (v.put ++ u.put) (v.taken ++ u.taken) in let spent = hand 0 [] [] in let vs = set views port both in (
        (let s = total_set (λ (y : Hand J). y.parts) views port v both at in let t = total_set (λ (y : Hand J). y.parts) vs other u spent at' in let p = b.0 in omega arith),
        (λ h.
            let s = total_set (λ (y : Hand J). total h y.put) views port v both at in
            let s' = total_set (λ (y : Hand J). total h y.put) vs other u spent at' in
            let t = total_set (λ (y : Hand J). total h y.taken) views port v both at in
            let t' = total_set (λ (y : Hand J). total h y.taken) vs other u spent at' in
            let a = total_append h v.put u.put in
            let c = total_append h v.taken u.taken in
            let p = b.1 h in omega arith),
        idle_set vs other spent (λ _. (refl, refl)) (idle_set views port both (λ none. absurd (omega arith)) b.2),
      )

  -- if all parts are 0 except at one index, then so is whatever is 0 for each pass without a part
  alone_total : (f : Hand J → ℕ) (views : List (Hand J)) → ((port : ℕ) (v : Hand J) → get_elem? views port ≡ some v → v.parts ≡ 0 → f v ≡ 0) → total (λ v. v.parts) views ≡ 0 → total f views ≡ 0
  alone_total f [] none e = refl
  alone_total f (x ∷ xs) none e = let a : x.parts ≡ 0 = omega arith in let b : total (λ (v : Hand J). v.parts) xs ≡ 0 = omega arith in
      let first = none 0 x refl a in let rest = alone_total f xs (λ port v at. none (suc port) v at) b in omega arith

  alone : (f : Hand J → ℕ) (views : List (Hand J)) (port : ℕ) (v : Hand J) → ((j : ℕ) (u : Hand J) → get_elem? views j ≡ some u → u.parts ≡ 0 → f u ≡ 0) → get_elem? views port ≡ some v → total (λ u. u.parts) views ≡ v.parts → total f views ≡ f v
  alone f [] port v none at e = absurd (some-ne-none v (sym at))
  alone f (x ∷ xs) zero v none at e = let is = some-injective x v at in let p : x.parts ≡ v.parts = ap (λ (y : Hand J). y.parts) is in let q : f x ≡ f v = ap f is in
      let rest = alone_total f xs (λ j u h. none (suc j) u h) (omega arith) in omega arith
  alone f (x ∷ xs) (suc port) v none at e = let m = total_at (λ (u : Hand J). u.parts) xs port v at in let k = m.0 in let m' : total (λ (u : Hand J). u.parts) xs ≡ v.parts + k = m.1 in
      let a : x.parts ≡ 0 = omega arith in let b : total (λ (u : Hand J). u.parts) xs ≡ v.parts = omega arith in
      let first = none 0 x refl a in let rest = alone f xs port v (λ j u h. none (suc j) u h) at b in omega arith

  pub learns : (port : ℕ) (v : Hand J) → v.parts ≡ 8 → Learns Balanced port v (λ items. Accounts v.put v.taken items)
  learns port v all items views b at h =
      let p = alone (λ (u : Hand J). total h u.put) views port v (λ j u e none. ap (total h) (b.2 j u e none).0) at (b.0 ∙ sym all) in
      let t = alone (λ (u : Hand J). total h u.taken) views port v (λ j u e none. ap (total h) (b.2 j u e none).1) at (b.0 ∙ sym all) in
      sym p ∙ b.1 h ∙ ap (λ k. k + total h items) t
