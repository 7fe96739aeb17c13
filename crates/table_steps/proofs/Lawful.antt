-- The law after each change of a node together with its posting.
use Rattle.std.proofs.Common.{ℕ, ◌+◌, ◌-◌, ◌<◌, ◌≤◌, ◌≡◌, ◌≢◌, Bool, true, false, List, [], ◌∷◌, ◌++◌, Some, None, Contains, refl, sym, ap, ◌∙◌, subst, inl, arith}
use Rattle.std.proofs.lemmas.Option.{none-some, same_Some}
use Rattle.ledger.specs.Periods.{Periods, posted}
use Rattle.ledger.specs.declared.postings.Posting.TheVariants.{Born, Entry, Back, Forget}
use Rattle.ledger.specs.Sums.{births_of, IsAllowed}
use Rattle.ledger.proofs.Touches.{touches_entry, touches_back, touches_forget}
use Rattle.tree.specs.declared.nodes.Node.{Node}
use Rattle.tree.specs.declared.nodes.Place.TheVariants.{Root, Named}
use Rattle.tree.specs.Places.{Lookup, with_node, IsNamed, IsTree}
use Rattle.tree.proofs.LookupLemmas.{with_same}
use Rattle.table_law.specs.Law.{HaveReasons, AreAlive, IsBegun, IsLawful}
use Rattle.table_steps.specs.Upheld.{IsUpheld}
use Rattle.table_steps.specs.Swept.{IsSwept}
use Rattle.table_steps.specs.Sweeping.{IsPruned}
use Rattle.table_steps.specs.Upheld.{IsBooked}
use Rattle.table_steps.proofs.Booked.{IsBooked-post, IsBooked-born, IsBooked-swept, IsBooked-pins}
use Rattle.table_steps.proofs.Reasons.{HaveReasons-none, HaveReasons-some, HaveReasons-write, HaveReasons-born, HaveReasons-all, HaveReasons-pins}

-- the law consists of the tree, the bookkeeping and the reasons
pub booked_of : (at : Lookup) (ps : Periods) (pinned : ℕ → Bool) → IsUpheld at ps pinned → IsBooked at ps pinned
booked_of at ps pinned law = law.booked

pub lawful_from : (at : Lookup) (ps : Periods) (pinned : ℕ → Bool) → IsTree at → IsBooked at ps pinned → HaveReasons at pinned → IsUpheld at ps pinned
lawful_from at ps pinned tree booked reasons = record { tree = tree; booked = booked; reasons = reasons }

-- so it is the law of an image
pub law_of : (at : Lookup) (ps : Periods) (pinned : ℕ → Bool) → IsUpheld at ps pinned → IsLawful at ps pinned
law_of at ps pinned law = record {
  tree = law.tree;
  root = law.booked.root;
  counted = law.booked.counted;
  born = law.booked.born;
  carried = law.booked.carried;
  marks = law.booked.marks;
  alive = law.booked.alive;
  reasons = law.reasons;
}

-- what remains after a sweep is lawful again
pub lawful_swept : (old new : Lookup) (ps : Periods) (pinned : ℕ → Bool) → IsBooked old ps pinned → IsSwept pinned old new → IsPruned new pinned [] → IsUpheld new ps pinned
lawful_swept old new ps pinned booked swept pruned =
    lawful_from new ps pinned pruned.tree (IsBooked-swept old new ps pinned swept booked) (HaveReasons-none new pinned pruned.reasons)

module _ (at : Lookup) (ps : Periods) (pinned : ℕ → Bool) (booked : IsBooked at ps pinned) (n : ℕ) (x : Node) (stood : at n ≡ Some x) where
  -- a node with a count is not the root
  pub counted_not_root : 0 < x.count → n ≢ 1
  counted_not_root some e =
      let plain = booked.root.plain x (ap at (sym e) ∙ stood) in
      omega (arith, plain.1)

  -- a node was born or carried over
  pub was_begun : n ≢ 1 → IsBegun ps n x.generation
  was_begun not_root = booked.begun n x stood not_root

  pub may_forget : (amount : ℕ) → amount ≤ x.count → IsAllowed ps (Forget n x.generation amount)
  may_forget amount fits = let c = booked.counted.counts n x stood in omega arith

  pub may_take_back : 0 < x.count → IsAllowed ps (Back n x.generation)
  may_take_back some = let c = booked.counted.counts n x stood in omega arith

  pub booked_forget : (amount : ℕ) → 0 < amount → amount ≤ x.count → IsBooked (with_node at n (record x { count = x.count - amount })) (posted ps (Forget n x.generation amount)) pinned
  booked_forget amount some fits =
      let positive : 0 < x.count = omega arith in
      let not_root = counted_not_root positive in
      IsBooked-post at ps pinned n x (x.count - amount) (Forget n x.generation amount) 0 amount stood not_root (touches_forget n x.generation amount) booked (omega arith) (may_forget amount fits) (was_begun not_root)

  pub booked_back : 0 < x.count → IsBooked (with_node at n (record x { count = x.count - 1 })) (posted ps (Back n x.generation)) pinned
  booked_back some =
      let not_root = counted_not_root some in
      IsBooked-post at ps pinned n x (x.count - 1) (Back n x.generation) 0 1 stood not_root (touches_back n x.generation) booked (omega arith) (may_take_back some) (was_begun not_root)

  pub booked_entry : n ≢ 1 → IsBooked (with_node at n (record x { count = x.count + 1 })) (posted ps (Entry n x.generation)) pinned
  booked_entry not_root =
      IsBooked-post at ps pinned n x (x.count + 1) (Entry n x.generation) 1 0 stood not_root (touches_entry n x.generation) booked (omega arith) tt (was_begun not_root)

-- a node with a name is not the root
pub named_not_root : (at : Lookup) (n p : ℕ) (name : List ℕ) → IsTree at → IsNamed at n p name → n ≢ 1
named_not_root at n p name tree named e =
    let r = tree.rooted in
    let same : named.0 ≡ r.node = same_Some named.0 r.node (sym named.1 ∙ (ap at e ∙ r.here)) in
    let bad : Named (record { parent = p; name = name }) ≡ Root = sym named.2 ∙ (ap (λ (w : Node). w.place) same ∙ r.root) in
    cc

-- a free number is not the root's
pub fresh_not_root : (at : Lookup) (n : ℕ) → IsTree at → at n ≡ None → n ≢ 1
fresh_not_root at n tree fresh e = none-some tree.rooted.node (sym fresh ∙ (ap at e ∙ tree.rooted.here))

-- a node with one more entry has a reason, and all others keep theirs
pub reasons_entry : (at : Lookup) (pinned : ℕ → Bool) (n : ℕ) (x : Node) → at n ≡ Some x → HaveReasons at pinned → HaveReasons (with_node at n (record x { count = x.count + 1 })) pinned
reasons_entry at pinned n x stood reasons =
    let y : Node = record x { count = x.count + 1 } in
    HaveReasons-none (with_node at n y) pinned (HaveReasons-all (with_node at n y) pinned n []
    (λ z h not_root. inl (let same : y ≡ z = same_Some y z (sym (with_same at n y) ∙ h) in let P : Node → Type 0 = λ w. 0 < w.count in subst P same (omega arith)))
    (HaveReasons-write at pinned n x y [] stood refl (HaveReasons-some at pinned [] reasons)))

-- a node gets one more entry
pub lawful_entry : (at : Lookup) (ps : Periods) (pinned : ℕ → Bool) (n p : ℕ) (name : List ℕ) (x : Node) → IsUpheld at ps pinned → at n ≡ Some x → x.place ≡ Named (record { parent = p; name = name }) → IsTree (with_node at n (record x { count = x.count + 1 })) → IsUpheld (with_node at n (record x { count = x.count + 1 })) (posted ps (Entry n x.generation)) pinned
lawful_entry at ps pinned n p name x law stood place tree =
    lawful_from (with_node at n (record x { count = x.count + 1 })) (posted ps (Entry n x.generation)) pinned tree
    (booked_entry at ps pinned (booked_of at ps pinned law) n x stood (named_not_root at n p name law.tree (x, stood, place)))
    (reasons_entry at pinned n x stood law.reasons)

-- a node is born and gets its first entry
pub lawful_birth : (at : Lookup) (ps : Periods) (pinned : ℕ → Bool) (n : ℕ) (y : Node) → IsUpheld at ps pinned → at n ≡ None → y.generation ≡ births_of n ps → y.count ≡ 0 → y.hidden ≡ false → IsTree (with_node at n y) → IsTree (with_node (with_node at n y) n (record y { count = y.count + 1 }))
    → IsUpheld (with_node (with_node at n y) n (record y { count = y.count + 1 })) (posted (posted ps (Born n y.generation)) (Entry n y.generation)) pinned
lawful_birth at ps pinned n y law fresh gen zero_count unmarked tree tree' =
    let not_root = fresh_not_root at n law.tree fresh in
    let one = with_node at n y in
    let z : Node = record y { count = y.count + 1 } in
    let booked = IsBooked-born at ps pinned n y fresh not_root gen zero_count unmarked (booked_of at ps pinned law) in
    let stood : one n ≡ Some y = with_same at n y in
    lawful_from (with_node one n z) (posted (posted ps (Born n y.generation)) (Entry n y.generation)) pinned tree'
    (booked_entry one (posted ps (Born n y.generation)) pinned booked n y stood not_root)
    (HaveReasons-none (with_node one n z) pinned (HaveReasons-all (with_node one n z) pinned n []
    (λ w h root. inl (let same : z ≡ w = same_Some z w (sym (with_same one n z) ∙ h) in let P : Node → Type 0 = λ v. 0 < v.count in subst P same (omega arith)))
    (HaveReasons-all (with_node one n z) pinned n (n ∷ [])
    (λ w h root. inl (let same : z ≡ w = same_Some z w (sym (with_same one n z) ∙ h) in let P : Node → Type 0 = λ v. 0 < v.count in subst P same (omega arith)))
    (HaveReasons-write one pinned n y z (n ∷ []) stood refl (HaveReasons-born at pinned n y [] fresh (HaveReasons-some at pinned [] law.reasons))))))

-- more numbers are pinned, all with living nodes
pub lawful_pins : (at : Lookup) (ps : Periods) (old new : ℕ → Bool) → IsUpheld at ps old → ((m : ℕ) → old m ≡ true → new m ≡ true) → AreAlive at new → IsUpheld at ps new
lawful_pins at ps old new law more pins =
    lawful_from at ps new law.tree (IsBooked-pins at ps old new pins (booked_of at ps old law)) (HaveReasons-none at new (HaveReasons-pins at old new [] more (HaveReasons-some at old [] law.reasons)))
